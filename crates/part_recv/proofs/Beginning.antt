-- The receive seat of a new pair is at rest: an end may be made of it. Its first view is idle, and the shelves are made
-- for the cells.
use Rattle.std.proofs.Common.{◌≡◌, ℕ, zero, suc, ◌+◌, ◌<◌, map, ap, ◌∙◌, arith}
use Rattle.std.specs.List.{range_with_len}
use mathlib.Core.Option.{some}
use lib.ListN.{get_elem?}
use Rattle.part_geometry.specs.Shape.{Shape}
use Rattle.pair_rule.specs.Seats.{cells_of}
use Rattle.pair_rule.specs.Parts.{first_shelf}
use Rattle.part_recv.specs.Receiving.{FirstRests}

-- what stands in a table of f
table_at : {X : Type 0} (f : ℕ → X) (a n i : ℕ) → i < n → get_elem? (map f (range_with_len a n)) i ≡ some (f (a + i))
table_at f a zero i low = absurd (omega arith)
table_at f a (suc n) zero low = ap (λ (z : ℕ). some (f z)) (let e : a ≡ a + 0 = omega arith in e)
table_at f a (suc n) (suc i) low = table_at f (a + 1) n i (omega arith) ∙ ap (λ (z : ℕ). some (f z)) (let e : a + 1 + i ≡ a + suc i = omega arith in e)

-- the seat with the first view and the first shelves is at rest
pub first_rests : FirstRests
first_rests g s view shelves = record {
  idle = ap (λ z. z.recv.released) view;
  alone = ap (λ z. z.recv.watchers) view;
  shelves = λ q inside.
      let same : s.view.geometry ≡ g = ap (λ z. z.geometry) view in
      let low : q < g.recv_parts = let e = ap (λ (z : Shape). z.recv_parts) same in omega arith in
      record {
        room = cells_of g q;
        there = ap (λ z. get_elem? z q) shelves ∙ (table_at (first_shelf g) 0 g.recv_parts q low ∙ ap (λ (z : ℕ). some (first_shelf g z)) (let e : 0 + q ≡ q = omega arith in e));
        wide = let e = ap (λ (z : Shape). cells_of z q) same in omega arith;
      };
}
