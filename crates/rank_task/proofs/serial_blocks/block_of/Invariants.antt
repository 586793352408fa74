use Rattle.cell_lanes.specs.Block.{HoldsOwnBelow}
use Rattle.halo_plan.specs.Plan.{first_row}
use Rattle.rank_task.specs.Blocks.{IsSized}
use Rattle.rank_task.proofs.serial_blocks.block_of.Given as goal

-- the first rows are there
abbrev pub invariant-loop-row : goal.invariant-loop-row
invariant-loop-row l = record {
  size : IsSized l.plan l.i l.block;
  own : HoldsOwnBelow l.grid (first_row l.plan l.i) 0 l.row l.block;
}
