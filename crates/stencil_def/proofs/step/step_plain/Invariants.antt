use Rattle.std.proofs.Common.{◌+◌, ◌*◌}
use Rattle.stencil_def.proofs.StepFacts.{Filled}
use Rattle.stencil_def.proofs.step.step_plain.Given as goal

abbrev pub invariant-loop-row : goal.invariant-loop-row
invariant-loop-row l = Filled l.grid l.rule l.next (l.row * l.grid.cols)

abbrev pub invariant-loop-col : goal.invariant-loop-col
invariant-loop-col l = Filled l.grid l.rule l.next (l.row * l.grid.cols + l.col)
