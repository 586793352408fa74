-- What one step of a walk over the cells tells, for a caller that sees only what it answers: by the definition of the
-- next cell, in the two cases of one left and none left.
use Rattle.std.proofs.Common.{◌≡◌, ◌+◌, ◌<◌, ◌≤◌, nat_lt, Some, None, List, [], ◌∷◌, ◌++◌, map, refl, ap, ◌∙◌, arith, inl, inr}
use Rattle.std.specs.List.{range_with_len}
use Rattle.std.proofs.lemmas.Bool.{cases_Bool, ltb-true, ltb-false, cond-true, cond-false}
use Rattle.std.proofs.lemmas.List.FromFn.{map-range_with_len_more}
use Rattle.part_geometry.specs.declared.walk.Cell.{Cell}
use Rattle.part_geometry.specs.Shape.{Shape}
use Rattle.part_geometry.specs.Cells.{cells}
use Rattle.part_geometry.specs.Walk.{Walked, cell_at, next_cell, passed}

-- where a walk gives a cell, one was left and it is that one
pub step_some : (w : Walked) (cell : Cell) → Some cell ≡ next_cell w → (w.place < cells w.shape) × (cell ≡ cell_at w.shape w.place) × (passed w ≡ record { shape = w.shape; place = w.place + 1 })
step_some w cell is =
    elim (cases_Bool (nat_lt w.place (cells w.shape))) [
      | inl more ↦
          let e : Some cell ≡ Some (cell_at w.shape w.place) = is ∙ cond-true _ _ _ more in
          (ltb-true _ _ more, cc, rw more refl)
      | inr none ↦ let e : Some cell ≡ None = is ∙ cond-false _ _ _ none in cc
    ]

-- and where it gives none, all are passed
pub step_none : (w : Walked) → None ≡ next_cell w → w.place ≤ cells w.shape → w.place ≡ cells w.shape
step_none w is inside =
    elim (cases_Bool (nat_lt w.place (cells w.shape))) [
      | inl more ↦ let e : None ≡ Some (cell_at w.shape w.place) = is ∙ cond-true _ _ _ more in cc
      | inr none ↦ let h = ltb-false _ _ none in omega arith
    ]

-- a cell that a walk gives, pushed behind those before it
pub pushed : (g : Shape) (w new : Walked) (cell : Cell) (all all' : List Cell) → Some cell ≡ next_cell w → new ≡ passed w → w.shape ≡ g
    → all ≡ map (cell_at g) (range_with_len 0 w.place) → all' ≡ all ++ cell ∷ []
    → (new.shape ≡ g) × (new.place ≤ cells g) × (all' ≡ map (cell_at g) (range_with_len 0 new.place))
pushed g w new cell all all' is next shape before after =
    let h = step_some w cell is in
    let there : new ≡ record { shape = w.shape; place = w.place + 1 } = next ∙ h.2 in
    let place : new.place ≡ w.place + 1 = ap (λ x. x.place) there in
    let same : new.shape ≡ g = ap (λ x. x.shape) there ∙ shape in
    let within : w.place < cells g = rw (← shape) h.0 in
    let more = map-range_with_len_more (cell_at g) 0 w.place w.place (omega arith) in
    let item : cell ≡ cell_at g w.place = rw (← shape) h.1 in
    (same, omega arith, rw (after, before, item, place, more) refl)
