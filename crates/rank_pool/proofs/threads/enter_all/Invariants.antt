use Rattle.std.proofs.Common.{◌≡◌, ◌+◌, ◌++◌, [], length, map}
use Rattle.crossbeam_queue.specs.Passes.{view, IsPassOf}
use Rattle.rank_pool.specs.Places.{every, knows}
use Rattle.rank_pool.specs.Jobs.{Waits}
use Rattle.rank_pool.proofs.threads.enter_all.Given as goal

abbrev pub invariant-loop : goal.invariant-loop
invariant-loop g l = record {
  queue : IsPassOf l.queue l.pass;
  waits : Waits g.J.Job.which g.J.Job.belongs l.shared l.counter l.row;
  known : view l.pass ≡ knows every (view l.pass).entered [] [];
  count : length (view l.pass).entered ≡ l.counter;
  entered : (view l.pass).entered ++ map (λ x. (g.J.Job.which x.job, l.shared)) l.row ≡ map (λ x. (g.J.Job.which x.job, l.shared)) l.fn.tickets;
  rest : l.counter + length l.row ≡ length l.fn.tickets;
}
