use Rattle.std.proofs.Common.{◌≡◌, ap, ◌∙◌}
use Rattle.pair_rule.specs.Seats.{Held}
use Rattle.partrate.proofs.Kept.{rest_all}
use Rattle.partrate.proofs.threads.join_markers.Goals as goal

-- The thread that is joined stood first among the rest.
pub loop-thread-preserved : goal.loop-thread-preserved
loop-thread-preserved g c =
    let was = c.loop-thread.invariant in
    let step = c.in-Some.ensures.steps in
    let back = c.rejoin-in-loop-thread.ensures.end.2 in (
      tt,
      tt,
      (ap (λ (s : Held). s.table) back ∙ was.2.0, ap (λ (s : Held). s.view.geometry) back ∙ was.2.1),
      rest_all (λ h. h.promise.0.now ≡ c.args.pair.now) _ _ _ step.0 was.3,
    )
