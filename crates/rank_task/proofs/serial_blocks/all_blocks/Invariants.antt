use Rattle.std.proofs.Common.{◌≡◌, ℕ, ◌<◌, length}
use Rattle.cell_lanes.specs.Block.{HoldsOwn}
use Rattle.halo_plan.specs.Plan.{first_row}
use Rattle.rank_task.specs.Blocks.{IsSized, block_at}
use Rattle.rank_task.proofs.serial_blocks.all_blocks.Given as goal

-- the first blocks are there
abbrev pub invariant-loop-i : goal.invariant-loop-i
invariant-loop-i l = record {
  count : length l.blocks.items ≡ l.i;
  size : (j : ℕ) → j < l.i → IsSized l.plan j (block_at l.blocks.items j);
  own : (j : ℕ) → j < l.i → HoldsOwn l.grid (first_row l.plan j) 0 (block_at l.blocks.items j);
}
