-- The padded grid after a number of steps: padded by the new cells of one grid, it is padded by the cells of the next.
use Rattle.std.proofs.Common.{◌≡◌, ◌∙◌, sym, ap, subst, ℕ, ◌+◌, ◌*◌, ◌<◌, ℤ, List, ◌++◌, length, take, drop, Result, Ok, Err, IfOk, arith}
use Rattle.std.proofs.Math.Seq.{take-append_seam}
use Rattle.stencil_def.specs.declared.rule.Rule.{Rule}
use Rattle.stencil_def.specs.Plane.{Plane, cell}
use Rattle.stencil_def.specs.Step.{new_cell, next_plane, fold_plane}
use Rattle.stencil_def.proofs.FoldFacts.{fold-rows, fold-cols}
use Rattle.stencil_def.proofs.StepFacts.{next-cells, fold-none, fold-more}
use Rattle.cell_lanes.specs.Padding.{with_ends, end_or, IsPadded}
use Rattle.cell_lanes.proofs.RowFacts.{end-same}

-- padded by the new cells is padded by the cells of the next grid
pub padded-next : (g : Plane) (rule : Rule) (rows cols : ℕ) (values : List ℤ) → g.rows ≡ rows → g.cols ≡ cols → 0 < rows → 0 < cols
    → IsPadded (new_cell g rule) rule rows cols values → IsPadded (cell (next_plane g rule)) rule rows cols values
padded-next g rule rows cols values e f some-rows some-cols padded y x less lt =
    let same : (row : ℕ) → row < rows → (col : ℕ) → col < cols → new_cell g rule row col ≡ cell (next_plane g rule) row col =
    λ row h col l. sym (next-cells g rule row col (omega (arith, h, e)) (omega (arith, l, f))) in
    padded y x less lt
    ∙ end-same rule rows y (λ row. end_or rule cols (new_cell g rule row) x) (λ row. end_or rule cols (cell (next_plane g rule) row) x) some-rows
    (λ row h. end-same rule cols x (new_cell g rule row) (cell (next_plane g rule) row) some-cols (same row h))

-- the step of the run
pub padded-step : (g : Plane) (rule : Rule) (n rows cols : ℕ) (values : List ℤ) → g.rows ≡ rows → g.cols ≡ cols → 0 < rows → 0 < cols
    → IsPadded (new_cell (fold_plane g rule n) rule) rule rows cols values → IsPadded (cell (fold_plane g rule (n + 1))) rule rows cols values
padded-step g rule n rows cols values e f some-rows some-cols padded =
    subst (λ p. IsPadded (cell p) rule rows cols values) (sym (fold-more g rule n))
    (padded-next (fold_plane g rule n) rule rows cols values (fold-rows g rule n ∙ e) (fold-cols g rule n ∙ f) some-rows some-cols padded)

-- the first padded grid, with the sizes that the code reads
pub padded-first : (g : Plane) (rule : Rule) (rows cols : ℕ) (values : List ℤ) → rows ≡ g.rows → cols ≡ g.cols
    → IsPadded (cell g) rule g.rows g.cols values → IsPadded (cell (fold_plane g rule 0)) rule rows cols values
padded-first g rule rows cols values e f padded =
    subst (λ p. IsPadded (cell p) rule rows cols values) (sym (fold-none g rule))
    (subst (λ n. IsPadded (cell g) rule n cols values) (sym e) (subst (λ n. IsPadded (cell g) rule g.rows n values) (sym f) padded))

-- the length of the first padded grid, with the sizes that the code reads
pub length-first : (g : Plane) (rule : Rule) (rows cols size : ℕ) → rows ≡ g.rows → cols ≡ g.cols
    → size ≡ with_ends rule g.rows * with_ends rule g.cols → size ≡ with_ends rule rows * with_ends rule cols
length-first g rule rows cols size e f long = long ∙ (ap (λ n. with_ends rule n * with_ends rule g.cols) (sym e) ∙ ap (λ n. with_ends rule rows * with_ends rule n) (sym f))

-- a fact of a success gives each fact that follows from it
pub if-ok : {T E : Type 0} (P Q : T → Type 0) (r : Result T E) → ((x : T) → P x → Q x) → IfOk r P → IfOk r Q
if-ok P Q (Ok x) f h = f x h
if-ok P Q (Err e) f h = tt

-- a list that was lent whole is what was written to it
pub lent-whole : {X : Type 0} (old new : List X) (n : ℕ) → n ≡ length old → length new ≡ length old → take n (new ++ drop (length new) old) ≡ new
lent-whole old new n long same =
    ap (λ k. take k (new ++ drop (length new) old)) (long ∙ sym same) ∙ take-append_seam new (drop (length new) old)
