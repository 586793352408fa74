-- The size of the grid after a number of steps: each step keeps the rows and the columns.
use Rattle.std.proofs.Common.{◌≡◌, ◌∙◌, refl, ap, ℕ, zero, suc, ◌*◌, length}
use Rattle.std.proofs.lemmas.List.FromFn.{length-map-range_with_len}
use Rattle.stencil_def.specs.declared.rule.Rule.{Rule}
use Rattle.stencil_def.specs.Plane.{Plane, IsPlane}
use Rattle.stencil_def.specs.Step.{next_plane, fold_plane}
use Rattle.stencil_def.proofs.StepFacts.{new_at}

next-rows : (g : Plane) (rule : Rule) → (next_plane g rule).rows ≡ g.rows
unfolding next_plane
next-rows g rule = refl

next-cols : (g : Plane) (rule : Rule) → (next_plane g rule).cols ≡ g.cols
unfolding next_plane
next-cols g rule = refl

next-length : (g : Plane) (rule : Rule) → length (next_plane g rule).values ≡ g.rows * g.cols
unfolding next_plane
next-length g rule = length-map-range_with_len (new_at g rule) 0 (g.rows * g.cols)

-- after any number of steps the grid has as many rows as at first
pub fold-rows : (g : Plane) (rule : Rule) (n : ℕ) → (fold_plane g rule n).rows ≡ g.rows
unfolding fold_plane
fold-rows g rule zero = refl
fold-rows g rule (suc n) = next-rows (fold_plane g rule n) rule ∙ fold-rows g rule n

-- after any number of steps the grid has as many columns as at first
pub fold-cols : (g : Plane) (rule : Rule) (n : ℕ) → (fold_plane g rule n).cols ≡ g.cols
unfolding fold_plane
fold-cols g rule zero = refl
fold-cols g rule (suc n) = next-cols (fold_plane g rule n) rule ∙ fold-cols g rule n

-- from a grid in its limits, the grid after any number of steps has rows times columns values
pub fold-length : (g : Plane) (rule : Rule) (n : ℕ) → IsPlane g → length (fold_plane g rule n).values ≡ g.rows * g.cols
unfolding fold_plane
fold-length g rule zero p = p.length
fold-length g rule (suc n) p =
    next-length (fold_plane g rule n) rule ∙ (ap (λ k. k * (fold_plane g rule n).cols) (fold-rows g rule n) ∙ ap (λ k. g.rows * k) (fold-cols g rule n))
