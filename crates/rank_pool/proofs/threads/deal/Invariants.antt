use Rattle.std.proofs.Common.{◌≡◌, ◌≤◌, ◌-◌, All, vec_len, vec_capacity}
use Rattle.crossbeam_queue.specs.Passes.{view, IsPassOf}
use Rattle.rank_pool.specs.Places.{knows}
use Rattle.rank_pool.specs.Jobs.{Serves}
use Rattle.rank_pool.proofs.threads.deal.Given as goal

abbrev pub invariant-loop : goal.invariant-loop
invariant-loop g l = record {
  queue : IsPassOf l.queue l.pass;
  known : view l.pass ≡ knows ((view l.fn.pass).parts - l.counter) (view l.fn.pass).entered (view l.fn.pass).held (view l.fn.pass).done;
  len : vec_len l.workers ≡ l.counter;
  room : l.count ≤ vec_capacity l.workers;
  workers : All (λ w. IsPassOf l.queue w.pass × Serves g.J.Job.which g.J.Job.belongs g.J.Job.over l.shared (view l.fn.pass).entered (view w.pass) w.finished) l.workers.items;
}
