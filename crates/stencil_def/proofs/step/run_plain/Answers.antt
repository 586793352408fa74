use Rattle.std.proofs.Common.{◌∙◌, sym, ap}
use Rattle.stencil_def.specs.Step.{next_plane}
use Rattle.stencil_def.proofs.StepFacts.{fold-none, fold-more}
use Rattle.stencil_def.proofs.step.run_plain.Goals as goal

pub loop-step-init : goal.loop-step-init
loop-step-init c =
    (c.in_ok-last.ensures.same ∙ sym (fold-none c.args.grid.now c.args.rule.now), c.in_ok-last.ensures.limits)

pub loop-step-preserved : goal.loop-step-preserved
loop-step-preserved c = (
  c.in_ok-last-2.ensures.next
      ∙ (ap (λ g. next_plane g c.args.rule.now) c.loop-step.invariant.0 ∙ sym (fold-more c.args.grid.now c.args.rule.now c.loop-step._step)),
  c.in_ok-last-2.ensures.limits,
)
