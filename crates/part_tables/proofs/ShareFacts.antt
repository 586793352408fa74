-- Which cells a send partition and a piece share, and which pieces a send partition touches. Both are rows of cells,
-- one behind the other, so what they share is from the greater of the two firsts to the smaller of the two ends.
use Rattle.std.proofs.Common.{◌≡◌, ◌↔◌, ℕ, ◌+◌, ◌-◌, ◌<◌, ◌≤◌, ap, arith, inl, inr}
use Rattle.std.proofs.lemmas.Bool.{cases_lt}
use Rattle.part_geometry.specs.Shape.{Shape, IsShape}
use Rattle.part_geometry.specs.Cells.{cells, send_of}
use Rattle.part_geometry.specs.Pieces.{pieces, piece_of, first_cell, last_cell, Touches}
use Rattle.part_geometry.proofs.PieceFacts.{piece-ordered, piece-next, piece_of-inside, piece_of-holds, before-piece, upto-piece}
use Rattle.part_geometry.proofs.Rows.{row-le, row-hits, send-row, piece-row}
use Rattle.part_tables.specs.Parts.{cells_before, first_sent, first_shared, after_shared}
use Rattle.part_tables.proofs.CountFacts.{cells_before-is, in_part, before-le, before-rises}

-- the cells of a piece are those from its first to its last
pub in_piece_lem : (g : Shape) (i c : ℕ) → c < cells g → i < pieces g → (piece_of g c ≡ i) ↔ ((first_cell g i ≤ c) × (c ≤ last_cell g i))
in_piece_lem g i c cell inside = (
  (λ is.
      let h = piece_of-holds g c cell in
      let first = ap (first_cell g) is in let last = ap (last_cell g) is in
      let low = h.low in let high = h.high in (omega arith, omega arith)),
  (λ both. piece_of-inside g i c inside both.0 both.1),
)

-- as many cells lie before a piece as the number of its first cell
pub piece-first : (g : Shape) (i : ℕ) → i < pieces g → cells_before (piece_of g) (cells g) i ≡ first_cell g i
piece-first g i inside =
    let o = piece-ordered g i inside in
    cells_before-is (piece_of g) (cells g) i (first_cell g i) record {
      few = (let a = o.0 in let b = o.1 in omega arith);
      before = λ c h. (before-piece g i c inside (let a = o.0 in let b = o.1 in omega arith)).0 h;
      behind = λ c low high. elim (cases_lt (piece_of g c) i) [
        | inl less ↦ let h = (before-piece g i c inside high).1 less in absurd (omega arith)
        | inr more ↦ more
      ];
    }

-- and as many before the next piece as the number of the cell behind its last
pub piece-after : (g : Shape) (i : ℕ) → i < pieces g → cells_before (piece_of g) (cells g) (i + 1) ≡ last_cell g i + 1
piece-after g i inside =
    let o = piece-ordered g i inside in
    cells_before-is (piece_of g) (cells g) (i + 1) (last_cell g i + 1) record {
      few = (let b = o.1 in omega arith);
      before = λ c h. let z = (upto-piece g i c inside (let b = o.1 in omega arith)).0 (omega arith) in omega arith;
      behind = λ c low high. elim (cases_lt i (piece_of g c)) [
        | inl more ↦ omega arith
        | inr less ↦ let h = (upto-piece g i c inside high).1 less in absurd (omega arith)
      ];
    }

-- the cells of a send partition are those from its first up to and without the first of the next partition
pub in_sent_lem : (g : Shape) → IsShape g → (p c : ℕ) → c < cells g → (send_of g c ≡ p) ↔ ((first_sent g p ≤ c) × (c < first_sent g (p + 1)))
unfolding first_sent
in_sent_lem g v p c inside = in_part (send_of g) (cells g) g.send_parts (send-row g v) p c inside

-- no send partition begins behind the number of cells
sent-le : (g : Shape) → IsShape g → (p : ℕ) → first_sent g p ≤ cells g
unfolding first_sent
sent-le g v p = before-le (send_of g) (cells g) g.send_parts (send-row g v) p

-- each send partition begins before the next one does
sent-rises : (g : Shape) → IsShape g → (p : ℕ) → p < g.send_parts → first_sent g p < first_sent g (p + 1)
unfolding first_sent
sent-rises g v p inside = before-rises (send_of g) (cells g) g.send_parts (send-row g v) p inside

-- the cells of both are those from `first_shared` up to and without `after_shared`
pub in_shared_lem : (g : Shape) → IsShape g → (p i c : ℕ) → c < cells g → i < pieces g
    → ((send_of g c ≡ p) × (piece_of g c ≡ i)) ↔ ((first_shared g p i ≤ c) × (c < after_shared g p i))
in_shared_lem g v p i c cell inside =
    let sent = in_sent_lem g v p c cell in
    let piece = in_piece_lem g i c cell inside in (
      (λ both.
          let a = sent.0 both.0 in let b = piece.0 both.1 in
          let a0 = a.0 in let a1 = a.1 in let b0 = b.0 in let b1 = b.1 in (omega arith, omega arith)),
      (λ both.
          let low = both.0 in let high = both.1 in
          (sent.1 (omega arith, omega arith), piece.1 (omega arith, omega arith))),
    )

-- the cell by which they touch is one of these
pub touch-cell : (g : Shape) → IsShape g → (p i : ℕ) → i < pieces g → (t : Touches g i p)
    → (first_shared g p i ≤ t.0) × (t.0 < after_shared g p i)
touch-cell g v p i inside t =
    let o = (piece-ordered g i inside).1 in
    let high = t.2 in
    (in_shared_lem g v p i t.0 (omega arith) inside).0 (t.3, (in_piece_lem g i t.0 (omega arith) inside).1 (t.1, t.2))

-- they touch exactly where there is one
pub shared-some_lem : (g : Shape) → IsShape g → (p i : ℕ) → i < pieces g
    → Touches g i p ↔ (first_shared g p i < after_shared g p i)
shared-some_lem g v p i inside = (
  (λ t. let h = touch-cell g v p i inside t in let low = h.0 in let high = h.1 in omega arith),
  (λ some.
      let c = first_shared g p i in
      let o = (piece-ordered g i inside).1 in
      let cell : c < cells g = omega arith in
      let h = (in_shared_lem g v p i c cell inside).1 (omega arith, some) in
      let piece = (in_piece_lem g i c cell inside).0 h.1 in
      (c, piece.0, piece.1, h.0)),
)

-- the pieces that a partition touches are those from the piece of its first cell to that of its last
pub touched-range : (g : Shape) → IsShape g → (p i : ℕ) → p < g.send_parts → i < pieces g
    → Touches g i p ↔ ((piece_of g (first_sent g p) ≤ i) × (i ≤ piece_of g (first_sent g (p + 1) - 1)))
touched-range g v p i part inside =
    let row = piece-row g v in
    let first = first_sent g p in
    let last = first_sent g (p + 1) - 1 in
    let rise = sent-rises g v p part in
    let few = sent-le g v (p + 1) in (
      (λ t.
          let o = (piece-ordered g i inside).1 in
          let high = t.2 in
          let cell : t.0 < cells g = omega arith in
          let piece = (in_piece_lem g i t.0 cell inside).1 (t.1, t.2) in
          let sent = (in_sent_lem g v p t.0 cell).0 t.3 in
          let s0 = sent.0 in let s1 = sent.1 in
          let low = row-le (piece_of g) (cells g) (pieces g) row first t.0 s0 cell in
          let up = row-le (piece_of g) (cells g) (pieces g) row t.0 last (omega arith) (omega arith) in
          (omega arith, omega arith)),
      (λ both.
          let e : first + (last - first) ≡ last = omega arith in
          let z : piece_of g (first + (last - first)) ≡ piece_of g last = ap (piece_of g) e in
          let b0 = both.0 in let b1 = both.1 in
          let d = row-hits (piece_of g) (cells g) (pieces g) row first (last - first) i (omega arith) b0 (omega arith) in
          let d1 = d.1 in let d2 = d.2 in
          let piece = (in_piece_lem g i d.0 (omega arith) inside).0 d.3 in
          (d.0, piece.0, piece.1, (in_sent_lem g v p d.0 (omega arith)).1 (omega arith, omega arith))),
    )

-- two neighbouring pieces that a partition touches share neighbouring cells with it
pub shared-next_lem : (g : Shape) → IsShape g → (p i : ℕ) → i + 1 < pieces g → Touches g i p → Touches g (i + 1) p
    → after_shared g p i ≡ first_shared g p (i + 1)
shared-next_lem g v p i inside here next =
    let step = piece-next g i inside in
    let a = touch-cell g v p i (omega arith) here in
    let b = touch-cell g v p (i + 1) inside next in
    let a0 = a.0 in let a1 = a.1 in let b0 = b.0 in let b1 = b.1 in
    let low = here.2 in let high = next.1 in omega arith

-- what a partition shares with the first piece that it touches begins with the partition's first cell
pub shared-first_lem : (g : Shape) → IsShape g → (p : ℕ) → p < g.send_parts → first_shared g p (piece_of g (first_sent g p)) ≡ first_sent g p
shared-first_lem g v p part =
    let rise = sent-rises g v p part in
    let few = sent-le g v (p + 1) in
    let low = (piece_of-holds g (first_sent g p) (omega arith)).low in omega arith

-- and what it shares with the last one ends with its last cell
pub shared-last_lem : (g : Shape) → IsShape g → (p : ℕ) → p < g.send_parts → after_shared g p (piece_of g (first_sent g (p + 1) - 1)) ≡ first_sent g (p + 1)
shared-last_lem g v p part =
    let rise = sent-rises g v p part in
    let few = sent-le g v (p + 1) in
    let high = (piece_of-holds g (first_sent g (p + 1) - 1) (omega arith)).high in omega arith
