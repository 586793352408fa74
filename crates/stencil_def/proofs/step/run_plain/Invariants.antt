use Rattle.std.proofs.Common.{◌≡◌}
use Rattle.stencil_def.specs.Plane.{IsPlane}
use Rattle.stencil_def.specs.Step.{fold_plane}
use Rattle.stencil_def.proofs.step.run_plain.Given as goal

abbrev pub invariant-loop-step : goal.invariant-loop-step
invariant-loop-step l = (l.last ≡ fold_plane l.grid l.rule l._step) × IsPlane l.last
