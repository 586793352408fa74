use Rattle.std.proofs.Common.{◌≡◌, ◌+◌, ◌++◌, [], length}
use Rattle.std.specs.Vec.Iter.{into_iter_items}
use Rattle.crossbeam_queue.specs.Passes.{view, IsPassOf}
use Rattle.rank_pool.specs.Jobs.{Works}
use Rattle.rank_pool.proofs.threads.gather.Given as goal

abbrev pub invariant-loop-worker : goal.invariant-loop-worker
invariant-loop-worker g l = record {
  queue : IsPassOf l.queue l.collector.pass;
  works : Works g.J.Job.which g.J.Job.belongs g.J.Job.over l.shared (view l.collector.pass) l.collector.finished [];
  parts : (view l.collector.pass).parts ≡ (view l.fn.collector.pass).parts + length l.yielded;
  entered : (view l.collector.pass).entered ≡ (view l.fn.collector.pass).entered;
  rest : l.yielded ++ into_iter_items l.worker-iterator ≡ into_iter_items l.initial.worker-iterator;
}
