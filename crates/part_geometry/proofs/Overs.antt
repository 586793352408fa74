-- The pieces over a receive partition are those that touch it: partitions count up from cell to cell, so between the
-- partitions of a piece's first and last cell each has a cell of the piece.
use Rattle.std.proofs.Common.{◌≡◌, ℕ, ◌+◌, ◌-◌, ◌<◌, ◌≤◌, true, nat_le, ap, arith}
use Rattle.std.proofs.lemmas.Bool.{le-leb, leb-true, and_from, and_parts}
use Rattle.part_geometry.specs.Shape.{Shape, IsShape}
use Rattle.part_geometry.specs.Cells.{cells, recv_of}
use Rattle.part_geometry.specs.Pieces.{pieces, first_cell, last_cell, is_over, AreOver}
use Rattle.part_geometry.proofs.Parts.{recv-mono}
use Rattle.part_geometry.proofs.PieceFacts.{piece-ordered}
use Rattle.part_geometry.proofs.Rows.{row-hits, recv-row}

-- a piece over receive partition q has a cell of q
pub over-cell : (g : Shape) (v : IsShape g) (q i : ℕ) → i < pieces g → is_over g q i ≡ true → (d : ℕ) × (first_cell g i ≤ d) × (d ≤ last_cell g i) × (recv_of g d ≡ q)
over-cell g v q i inside over =
    let h = and_parts (nat_le (recv_of g (first_cell g i)) q) (nat_le q (recv_of g (last_cell g i))) over in
    let o = piece-ordered g i inside in
    let e : first_cell g i + (last_cell g i - first_cell g i) ≡ last_cell g i = (let l = o.0 in omega arith) in
    let z : recv_of g (first_cell g i + (last_cell g i - first_cell g i)) ≡ recv_of g (last_cell g i) = ap (recv_of g) e in
    let low = leb-true _ _ h.0 in let high = leb-true _ _ h.1 in
    let d = row-hits (recv_of g) (cells g) g.recv_parts (recv-row g v) (first_cell g i) (last_cell g i - first_cell g i) q (let l = o.1 in omega arith) low (omega arith) in
    (d.0, d.1, (let u = d.2 in omega arith), d.3)

-- a piece that has a cell of q is over q
pub cell-over : (g : Shape) (v : IsShape g) (q i d : ℕ) → i < pieces g → first_cell g i ≤ d → d ≤ last_cell g i → recv_of g d ≡ q → is_over g q i ≡ true
cell-over g v q i d inside low high is =
    let o = piece-ordered g i inside in
    let a = recv-mono g v (first_cell g i) d low (let l = o.1 in omega arith) in
    let b = recv-mono g v d (last_cell g i) high (let l = o.1 in omega arith) in
    and_from (nat_le (recv_of g (first_cell g i)) q) (nat_le q (recv_of g (last_cell g i))) (le-leb _ _ (omega arith)) (le-leb _ _ (omega arith))

-- a piece is over a receive partition exactly where they touch
pub overs : AreOver
overs g q i v inside = (
  (λ over. over-cell g v q i inside over),
  λ touches. cell-over g v q i touches.0 inside touches.1 touches.2 touches.3,
)
