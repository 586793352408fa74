use Rattle.std.proofs.Common.{◌≡◌, ◌++◌, ℕ, length}
use mathlib.Core.Option.{some}
use lib.ListN.{get_elem?}
use Rattle.crossbeam_queue.specs.Passes.{view}
use Rattle.rank_pool.specs.Jobs.{IsIn}
use Rattle.rank_pool.proofs.order.lay.Given as goal

abbrev pub invariant-loop-ticket : goal.invariant-loop-ticket
invariant-loop-ticket g l = record {
  len : length l.row.items ≡ length (view l.pass).entered;
  laid : (i : ℕ) (x : _) → get_elem? l.yielded i ≡ some x → IsIn g.J.Job.which g.J.Job.belongs g.J.Job.over l.shared (view l.pass).entered l.row.items x.number;
  rest : l.yielded ++ l.ticket-iterator ≡ l.initial.ticket-iterator;
}
