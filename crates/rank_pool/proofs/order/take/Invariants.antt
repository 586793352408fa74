use Rattle.std.proofs.Common.{◌≡◌, ◌≤◌, ◌++◌, ℕ, length, vec_capacity}
use mathlib.Core.Option.{some}
use lib.ListN.{get_elem?}
use Rattle.std.specs.Vec.Iter.{into_iter_items}
use Rattle.crossbeam_queue.specs.Passes.{view}
use Rattle.rank_pool.specs.Jobs.{IsBack}
use Rattle.rank_pool.proofs.order.take.Given as goal

abbrev pub invariant-loop-slot : goal.invariant-loop-slot
invariant-loop-slot g l = record {
  len : length l.jobs.items ≡ length l.yielded;
  room : length l.fn.slots.items ≤ vec_capacity l.jobs;
  back : (k : ℕ) (j : _) → get_elem? l.jobs.items k ≡ some j → IsBack g.J.Job.which g.J.Job.belongs g.J.Job.over l.shared (view l.pass).entered k j;
  rest : l.yielded ++ into_iter_items l.slot-iterator ≡ into_iter_items l.initial.slot-iterator;
}
