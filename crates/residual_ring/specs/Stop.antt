-- Whether a run has come to a step.
use Rattle.std.specs.Prelude.{ℕ, ◌<◌, ◌≤◌, ℤ, pos, ◌<ℤ◌}
use Rattle.stencil_def.specs.declared.rule.Rule.{Rule}
use Rattle.stencil_def.specs.Plane.{Plane}
use Rattle.cell_lanes.specs.Change.{step_change}

-- each step before step n, from 1 on, changes a cell by more than `until`, so no run with this bound ends before it
abbrev pub GoesOnTo : Plane → Rule → ℤ → ℕ → Type 0
GoesOnTo g rule until n = (k : ℕ) → 1 ≤ k → k < n → until <ℤ pos (step_change g rule k)
