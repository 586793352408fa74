use Rattle.std.proofs.Common.{◌≡◌}
use Rattle.partrate.proofs.Kept.{rest_all}
use Rattle.partrate.proofs.threads.join_watchers.Goals as goal

-- The thread that is joined stood first among the rest.
pub loop-thread-preserved : goal.loop-thread-preserved
loop-thread-preserved g c =
    let was = c.loop-thread.invariant in
    let step = c.in-Some.ensures.steps in
    (tt, tt, c.rejoin.ensures.pair, rest_all (λ h. h.promise.0.now ≡ c.args.pair.now) _ _ _ step.0 was.3)
