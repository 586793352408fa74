-- The pieces over a receive partition, and the least of them that isn't out. They are in a row, so a search over all
-- pieces finds what a search over that row does.
use Rattle.std.proofs.Common.{◌≡◌, ◌⊎◌, ℕ, zero, suc, zero-add, add-zero, ◌+◌, ◌-◌, ◌<◌, ◌≤◌, Bool, true, false, cond, Some, None, find, refl, ap, sym, ◌∙◌, arith, inl, inr}
use Rattle.std.specs.List.{range_with_len}
use Rattle.std.proofs.Math.Nat.{suc-add}
use Rattle.std.proofs.lemmas.Bool.{cases_lt, cases_Bool, false_from_ne_true}
use Rattle.part_geometry.specs.Shape.{Shape, IsShape, send_total}
use Rattle.part_geometry.specs.Cells.{cells, start}
use Rattle.part_geometry.specs.Pieces.{pieces, piece_of, first_cell, last_cell, is_over}
use Rattle.part_geometry.proofs.Bounds.{start-zero, start-last}
use Rattle.part_geometry.proofs.PieceFacts.{piece-ordered, piece_of-inside, piece_of-holds}
use Rattle.part_geometry.proofs.Overs.{over-cell, cell-over}
use Rattle.part_geometry.proofs.Rows.{row-le, row-below, row-hits, piece-row}
use Rattle.plain_pair.specs.declared.tables.Row.TheVariants.{Recv}
use Rattle.plain_pair.specs.Tables.{AreCellsOf, ArePiecesOver}

-- the pieces from that of a receive partition's first cell to that of its last are those over it
pub pieces_over_part : (g : Shape) (v : IsShape g) (q first next : ℕ) → AreCellsOf Recv g q first next → ArePiecesOver g q (piece_of g first) (piece_of g (next - 1) + 1)
pieces_over_part g v q first next is =
    let row = piece-row g v in
    let some = is.some in let within = is.inside in
    let up = row-le (piece_of g) (cells g) (pieces g) row first (next - 1) (omega arith) (omega arith) in
    let top = row-below (piece_of g) (cells g) (pieces g) row (next - 1) (omega arith) in
    record {
      some = omega arith;
      inside = omega arith;
      over = λ i low high.
          let e : first + (next - 1 - first) ≡ next - 1 = omega arith in
          let z : piece_of g (first + (next - 1 - first)) ≡ piece_of g (next - 1) = ap (piece_of g) e in
          let d = row-hits (piece_of g) (cells g) (pieces g) row first (next - 1 - first) i (omega arith) low (omega arith) in
          let du = d.2 in
          let h = piece_of-holds g d.0 (omega arith) in
          let n = is.numbered d.0 d.1 (omega arith) in
          let hl = h.low in let hh = h.high in
          let fl : first_cell g (piece_of g d.0) ≡ first_cell g i = ap (first_cell g) d.3 in
          let ll : last_cell g (piece_of g d.0) ≡ last_cell g i = ap (last_cell g) d.3 in
          cell-over g v q i d.0 (omega arith) (omega arith) (omega arith) n;
      apart = λ i inside out. false_from_ne_true (is_over g q i) (λ over.
          let d = over-cell g v q i inside over in
          let o = piece-ordered g i inside in
          let here = is.all d.0 (let a = d.2 in let b = o.1 in omega arith) d.3 in
          let piece = piece_of-inside g i d.0 inside d.1 d.2 in
          let hl = here.0 in let hh = here.1 in
          let low' = row-le (piece_of g) (cells g) (pieces g) row first d.0 hl (omega arith) in
          let high' = row-le (piece_of g) (cells g) (pieces g) row d.0 (next - 1) (omega arith) (omega arith) in
          elim out [ inl b ↦ absurd (omega arith) | inr a ↦ absurd (omega arith) ]);
    }

-- where nothing passes, nothing is found
pub find-none : (p : ℕ → Bool) (n a : ℕ) → ((x : ℕ) → a ≤ x → x < a + n → p x ≡ false) → find p (range_with_len a n) ≡ None
find-none p zero a each = refl
find-none p (suc n) a each =
    rw (each a (omega arith) (omega arith)) (find-none p n (a + 1) (λ x low high. each x (omega arith) (omega arith)))

-- the first number that passes is found
pub find-some : (p : ℕ → Bool) (n a x : ℕ) → a ≤ x → x < a + n → p x ≡ true → ((y : ℕ) → a ≤ y → y < x → p y ≡ false) → find p (range_with_len a n) ≡ Some x
find-some p zero a x low high here before = absurd (omega arith)
find-some p (suc n) a x low high here before =
    elim (cases_lt a x) [
      | inl later ↦ rw (before a (omega arith) later) (find-some p n (a + 1) x (omega arith) (omega arith) here (λ y from to. before y (omega arith) to))
      | inr now ↦ let e : a ≡ x = omega arith in rw (ap p e ∙ here, e) refl
    ]

-- two tests that agree on a range find the same
pub find-same : (p q : ℕ → Bool) (n a : ℕ) → ((x : ℕ) → a ≤ x → x < a + n → p x ≡ q x) → find p (range_with_len a n) ≡ find q (range_with_len a n)
find-same p q zero a each = refl
find-same p q (suc n) a each =
    let rest = find-same p q n (a + 1) (λ x low high. each x (omega arith) (omega arith)) in
    rw (each a (omega arith) (omega arith), rest) refl

-- where nothing is found, nothing passes
pub find-nothing : (p : ℕ → Bool) (n a : ℕ) → find p (range_with_len a n) ≡ None → (x : ℕ) → a ≤ x → x < a + n → p x ≡ false
find-nothing p zero a none x low high = absurd (omega arith)
find-nothing p (suc n) a none x low high =
    elim (cases_Bool (p a)) [
      | inl here ↦ let e : Some a ≡ None = sym (rw here refl) ∙ none in cc
      | inr not_here ↦
          let rest : find p (range_with_len (a + 1) n) ≡ None = sym (rw not_here refl) ∙ none in
          elim (cases_lt a x) [
            | inl later ↦ find-nothing p n (a + 1) rest x (omega arith) (omega arith)
            | inr now ↦ ap p (let e : x ≡ a = omega arith in e) ∙ not_here
          ]
    ]

-- a place before the start of cell n is in a cell before it
cell_before : (g : Shape) (n x : ℕ) → x < start g n → (c : ℕ) × (c < n) × (start g c ≤ x) × (x < start g (c + 1))
cell_before g zero x below = let z = start-zero g in absurd (omega arith)
cell_before g (suc n) x below =
    elim (cases_lt x (start g n)) [
      | inl earlier ↦ let h = cell_before g n x earlier in (h.0, (let u = h.1 in omega arith), h.2, h.3)
      | inr here ↦ (n, omega arith, here, (let e : start g (n + 1) ≡ start g (suc n) = ap (start g) (let z : n + 1 ≡ suc n = omega arith in z) in omega arith))
    ]

-- each place of the message is in a cell
pub cell_of_place : (g : Shape) (v : IsShape g) (x : ℕ) → x < send_total g → (c : ℕ) × (c < cells g) × (start g c ≤ x) × (x < start g (c + 1))
cell_of_place g v x inside = cell_before g (cells g) x (let l = start-last g v in omega arith)

-- where nothing in the front of a range passes, only the back is searched
pub find-skip : (p : ℕ → Bool) (m a n : ℕ) → ((x : ℕ) → a ≤ x → x < a + m → p x ≡ false) → find p (range_with_len a (m + n)) ≡ find p (range_with_len (a + m) n)
find-skip p zero a n each = rw (zero-add, add-zero) refl
find-skip p (suc m) a n each =
    let rest = find-skip p m (a + 1) n (λ x low high. each x (omega arith) (omega arith)) in
    let e : a + suc m ≡ a + 1 + m = omega arith in
    rw (suc-add, each a (omega arith) (omega arith), e) rest

-- where nothing in the back passes, only the front is
pub find-cut : (p : ℕ → Bool) (m a n : ℕ) → ((x : ℕ) → a + m ≤ x → x < a + m + n → p x ≡ false) → find p (range_with_len a (m + n)) ≡ find p (range_with_len a m)
find-cut p zero a n each = rw zero-add (find-none p n a (λ x low high. each x (omega arith) (omega arith)))
find-cut p (suc m) a n each =
    let rest = find-cut p m (a + 1) n (λ x low high. each x (omega arith) (omega arith)) in
    rw suc-add (ap (λ o. cond (p a) (Some a) o) rest)

-- where a test passes nothing outside a window, and agrees with another in it, it finds in all what that finds in the
-- window
pub find-window : (p p' : ℕ → Bool) (n first end : ℕ) → first ≤ end → end ≤ n → ((i : ℕ) → i < n → (i < first) ⊎ (end ≤ i) → p i ≡ false) → ((i : ℕ) → first ≤ i → i < end → p i ≡ p' i)
    → find p (range_with_len 0 n) ≡ find p' (range_with_len first (end - first))
find-window p p' n first end ordered inside out same =
    let e : n ≡ first + ((end - first) + (n - end)) = omega arith in
    let z : 0 + first ≡ first = omega arith in
    ap (λ k. find p (range_with_len 0 k)) e
    ∙ find-skip p first 0 ((end - first) + (n - end)) (λ x low high. out x (omega arith) (inl (omega arith)))
    ∙ ap (λ k. find p (range_with_len k ((end - first) + (n - end)))) z
    ∙ find-cut p (end - first) first (n - end) (λ x low high. out x (omega arith) (inr (omega arith)))
    ∙ find-same p p' (end - first) first (λ x low high. same x low (omega arith))

-- where a range's first number doesn't pass, what is found is found behind it
pub find-next : (p : ℕ → Bool) (i end : ℕ) → i < end → p i ≡ false → find p (range_with_len i (end - i)) ≡ find p (range_with_len (i + 1) (end - (i + 1)))
find-next p i end inside fails =
    let e : end - i ≡ suc (end - (i + 1)) = omega arith in
    ap (λ n. find p (range_with_len i n)) e ∙ rw fails refl
