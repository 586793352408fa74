use Rattle.std.proofs.Common.{◌≡◌, []}
use Rattle.crossbeam_queue.specs.Passes.{view, IsPassOf}
use Rattle.rank_pool.specs.Jobs.{Works}
use Rattle.rank_pool.proofs.pool.settle.Given as goal

abbrev pub invariant-loop : goal.invariant-loop
invariant-loop g l = record {
  queue : IsPassOf l.queue l.collector.pass;
  works : Works g.J.Job.which g.J.Job.belongs g.J.Job.over l.shared (view l.collector.pass) l.collector.finished [];
  parts : (view l.collector.pass).parts ≡ (view l.fn.collector.pass).parts;
  entered : (view l.collector.pass).entered ≡ (view l.fn.collector.pass).entered;
}
