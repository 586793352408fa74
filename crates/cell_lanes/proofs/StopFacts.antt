-- After how many steps a run ends: before each step all steps so far changed a cell by more, so the first that doesn't is
-- the last. There is one such number of steps.
use Rattle.std.proofs.Common.{◌≡◌, ◌∙◌, sym, ap, subst, ℕ, ◌+◌, ◌-◌, ◌<◌, ◌≤◌, ℤ, pos, ◌≤ℤ◌, ◌<ℤ◌, Bool, true, false, refl, arith}
use Rattle.std.proofs.lemmas.Int.{ints}
use Rattle.stencil_def.specs.declared.rule.Rule.{Rule}
use Rattle.stencil_def.specs.Plane.{Plane}
use Rattle.stencil_def.specs.Step.{fold_plane, next_plane}
use Rattle.stencil_def.proofs.StepFacts.{fold-more}
use Rattle.cell_lanes.specs.Change.{IsStop, change, step_change}
use Rattle.cell_lanes.proofs.WindowFacts.{below-or}

-- the change of the step after n steps
pub step-change-more : (g : Plane) (rule : Rule) (n : ℕ) → step_change g rule (n + 1) ≡ change (fold_plane g rule n) (next_plane (fold_plane g rule n) rule)
step-change-more g rule n =
    let before : n + 1 - 1 ≡ n = omega arith in
    ap (λ k. change (fold_plane g rule k) (fold_plane g rule (n + 1))) before ∙ ap (change (fold_plane g rule n)) (fold-more g rule n)

-- n steps were made, and whether another is to follow
pub record IsRun (g : Plane) (rule : Rule) (until : ℤ) (n : ℕ) (goes_on : Bool) : Type 0 where
  pub before : (k : ℕ) → 1 ≤ k → k < n → until <ℤ pos (step_change g rule k)
  pub more : goes_on ≡ true → 1 ≤ n → until <ℤ pos (step_change g rule n)
  pub enough : goes_on ≡ false → (1 ≤ n) × (pos (step_change g rule n) ≤ℤ until)

pub run-none : (g : Plane) (rule : Rule) (until : ℤ) → IsRun g rule until 0 true
run-none g rule until = record {
  before = λ k some less. absurd (omega arith);
  more = λ e some. absurd (omega arith);
  enough = λ e. cc;
}

pub run-more : (g : Plane) (rule : Rule) (until : ℤ) (n : ℕ) (most : ℤ) (goes_on : Bool) → IsRun g rule until n true
    → most ≡ pos (change (fold_plane g rule n) (next_plane (fold_plane g rule n) rule))
    → (goes_on ≡ true → until <ℤ most) → (goes_on ≡ false → most ≤ℤ until) → IsRun g rule until (n + 1) goes_on
run-more g rule until n most goes_on run is greater less =
    let here : most ≡ pos (step_change g rule (n + 1)) = is ∙ ap (λ (m : ℕ). pos m) (sym (step-change-more g rule n)) in
    record {
      before = λ k some l.
          below-or k n (λ h. run.before k some h)
          (λ h. let same : n ≡ k = omega arith in subst (λ m. until <ℤ pos (step_change g rule m)) same (run.more refl (omega arith)));
      more = λ e some. subst (λ z. until <ℤ z) here (greater e);
      enough = λ e. (omega arith, subst (λ z. z ≤ℤ until) here (less e));
    }

-- a run that ended is at its stop
pub run-stops : (g : Plane) (rule : Rule) (steps : ℕ) (until : ℤ) (n : ℕ) → n ≤ steps → IsRun g rule until n false → IsStop g rule steps until n
run-stops g rule steps until n within run = record {
  most = within;
  before = run.before;
  early = λ h. run.enough refl;
}

-- and so is one that made all its steps
pub run-spent : (g : Plane) (rule : Rule) (steps : ℕ) (until : ℤ) (n : ℕ) (goes_on : Bool) → n ≡ steps → IsRun g rule until n goes_on → IsStop g rule steps until n
run-spent g rule steps until n goes_on all run = record {
  most = omega arith;
  before = run.before;
  early = λ h. absurd (omega arith);
}

-- a stop that comes before another one would be no stop
stop-least : (g : Plane) (rule : Rule) (steps : ℕ) (until : ℤ) (n m : ℕ) → IsStop g rule steps until n → IsStop g rule steps until m → n < m → ⊥
stop-least g rule steps until n m p q less =
    let within = q.most in
    let early = p.early (omega arith) in
    let low = early.1 in
    let high = q.before n early.0 less in
    omega (arith, ints)

-- there is one stop
pub stop-one : (g : Plane) (rule : Rule) (steps : ℕ) (until : ℤ) (n m : ℕ) → IsStop g rule steps until n → IsStop g rule steps until m → n ≡ m
stop-one g rule steps until n m p q =
    below-or n m
    (λ l. absurd (stop-least g rule steps until n m p q l))
    (λ h. below-or m n (λ l. absurd (stop-least g rule steps until m n q p l)) (λ k. omega arith))
