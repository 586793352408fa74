use Rattle.std.proofs.Common.{◌≡◌, []}
use Rattle.crossbeam_queue.specs.Passes.{view, IsPassOf}
use Rattle.rank_pool.specs.Jobs.{Works}
use Rattle.rank_pool.proofs.worker.next_job.Given as goal

abbrev pub invariant-loop : goal.invariant-loop
invariant-loop g l = record {
  queue : IsPassOf l.queue l.worker.pass;
  works : Works g.J.Job.which g.J.Job.belongs g.J.Job.over l.shared (view l.worker.pass) l.worker.finished [];
  parts : (view l.worker.pass).parts ≡ (view l.fn.worker.pass).parts;
  entered : (view l.worker.pass).entered ≡ (view l.fn.worker.pass).entered;
}
