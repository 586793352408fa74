use Rattle.std.proofs.Common.{◌≡◌, ℕ, ◌<◌, length}
use Rattle.cell_lanes.specs.Block.{HoldsOwn}
use Rattle.grid_tiles.specs.Tiles.{block_at}
use Rattle.grid_tiles.specs.Blocks.{IsSized, left, top}
use Rattle.grid_tiles.proofs.serial_blocks.all_blocks.Given as goal

-- the first blocks are there
abbrev pub invariant-loop-t : goal.invariant-loop-t
invariant-loop-t l = record {
  count : length l.blocks.items ≡ l.t;
  size : (t : ℕ) → t < l.t → IsSized l.plan t (block_at l.blocks.items t);
  own : (t : ℕ) → t < l.t → HoldsOwn l.grid (top l.plan t) (left l.plan t) (block_at l.blocks.items t);
}
