use Rattle.cell_lanes.specs.Block.{HoldsOwnBelow}
use Rattle.grid_tiles.specs.Blocks.{IsSized, left, top}
use Rattle.grid_tiles.proofs.serial_blocks.block_of.Given as goal

-- the first rows are there
abbrev pub invariant-loop-row : goal.invariant-loop-row
invariant-loop-row l = record {
  size : IsSized l.plan l.t l.block;
  own : HoldsOwnBelow l.grid (top l.plan l.t) (left l.plan l.t) l.row l.block;
}
