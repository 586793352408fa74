use Rattle.std.proofs.Common.{◌≡◌, ℕ, ◌<◌, length}
use Rattle.halo_plan.specs.Plan.{shape_of}
use Rattle.rank_task.specs.Blocks.{IsResting, pair_at}
use Rattle.rank_task.proofs.serial_blocks.all_pairs.Given as goal

-- the first pairs are there
abbrev pub invariant-loop-e : goal.invariant-loop-e
invariant-loop-e l = record {
  count : length l.pairs.items ≡ l._e;
  rest : (e : ℕ) → e < l._e → IsResting (shape_of l.plan) 0 (pair_at l.pairs.items e);
}
