-- The pieces that a send partition touches, and what a mark changes of what is missing: one less in each of these
-- pieces, and nothing in the others.
use Rattle.std.proofs.Common.{◌≡◌, ◌≢◌, ◌⊎◌, ℕ, zero, suc, ◌+◌, ◌-◌, ◌<◌, ◌≤◌, ◌==◌, Bool, true, false, cond, not, List, length, set, count_by, ap, sym, ◌∙◌, arith, inl, inr}
use Rattle.std.specs.List.{range_with_len}
use Rattle.std.proofs.lemmas.Bool.{cases_lt, cases_eq, eq-eqb, ne_eqb}
use Rattle.std.proofs.lemmas.List.{get_or-set_same, get_or-set_other}
use Rattle.std.proofs.lemmas.List.Sums.{sum_by-cons}
use Rattle.part_geometry.specs.Shape.{Shape, IsShape}
use Rattle.part_geometry.specs.Cells.{cells}
use Rattle.part_geometry.specs.Pieces.{pieces, piece_of, first_cell, last_cell, first_part, need_count, needed}
use Rattle.part_geometry.proofs.PieceFacts.{piece-ordered, piece_of-inside, piece_of-holds, Touches-range, need_count-pos}
use Rattle.part_geometry.proofs.Rows.{row-le, row-below, row-hits, piece-row}
use Rattle.plain_pair.specs.declared.tables.Row.TheVariants.{Send}
use Rattle.plain_pair.specs.Tables.{AreCellsOf, ArePiecesOf}
use Rattle.plain_pair.specs.Kept.{has}
use Rattle.plain_pair.specs.Sound.{unmarked}
use Rattle.plain_pair.proofs.Counts.{count-same}

-- the pieces of a send partition, by its cells
pub pieces_of_part : (g : Shape) (v : IsShape g) (p first next : ℕ) → AreCellsOf Send g p first next → ArePiecesOf g p (piece_of g first) (piece_of g (next - 1) + 1)
pieces_of_part g v p first next is =
    let row = piece-row g v in
    let some = is.some in let within = is.inside in
    let up = row-le (piece_of g) (cells g) (pieces g) row first (next - 1) (omega arith) (omega arith) in
    let top = row-below (piece_of g) (cells g) (pieces g) row (next - 1) (omega arith) in
    record {
      some = omega arith;
      inside = omega arith;
      touch = λ i low high.
          let e : first + (next - 1 - first) ≡ next - 1 = omega arith in
          let z : piece_of g (first + (next - 1 - first)) ≡ piece_of g (next - 1) = ap (piece_of g) e in
          let d = row-hits (piece_of g) (cells g) (pieces g) row first (next - 1 - first) i (omega arith) low (omega arith) in
          let du = d.2 in
          let h = piece_of-holds g d.0 (omega arith) in
          let n = is.numbered d.0 d.1 (omega arith) in
          let hl = h.low in let hh = h.high in
          let fl : first_cell g (piece_of g d.0) ≡ first_cell g i = ap (first_cell g) d.3 in
          let ll : last_cell g (piece_of g d.0) ≡ last_cell g i = ap (last_cell g) d.3 in
          let r = (Touches-range g v i p (omega arith)).0 (d.0, omega arith, omega arith, n) in
          let pos = need_count-pos g v i (omega arith) in
          (r.0, (let u = r.1 in omega arith));
      apart = λ i inside out.
          let pos = need_count-pos g v i inside in
          elim (cases_lt p (first_part g i)) [
            | inl below ↦ inl below
            | inr low ↦ elim (cases_lt p (first_part g i + need_count g i)) [
              | inr above ↦ inr above
              | inl high ↦
                  let t = (Touches-range g v i p inside).1 low (omega arith) in
                  let o = piece-ordered g i inside in
                  let here = is.all t.0 (let a = t.2 in let b = o.1 in omega arith) t.3 in
                  let piece = piece_of-inside g i t.0 inside t.1 t.2 in
                  let hl = here.0 in let hh = here.1 in
                  let low' = row-le (piece_of g) (cells g) (pieces g) row first t.0 hl (omega arith) in
                  let high' = row-le (piece_of g) (cells g) (pieces g) row t.0 (next - 1) (omega arith) (omega arith) in
                  elim out [ inl b ↦ absurd (omega arith) | inr a ↦ absurd (omega arith) ]
            ]
          ];
    }

-- a mark sets its own partition, and leaves the others
pub has-set : (marks : List Bool) (p x : ℕ) → p < length marks → has (set marks p true) x ≡ cond (x == p) true (has marks x)
has-set marks p x inside =
    elim (cases_eq x p) [
      | inl same ↦ ap (λ y. has (set marks p true) y) same ∙ get_or-set_same marks p true false inside ∙ sym (ap (λ b. cond b true (has marks x)) (eq-eqb x p same))
      | inr other ↦ get_or-set_other marks p x true false other ∙ sym (ap (λ b. cond b true (has marks x)) (ne_eqb x p other))
    ]

-- a mark leaves another partition as it was
pub has-set_other : (marks : List Bool) (p x : ℕ) → x ≢ p → has (set marks p true) x ≡ has marks x
has-set_other marks p x other = get_or-set_other marks p x true false other

-- and its own is set
pub has-set_same : (marks : List Bool) (p : ℕ) → p < length marks → has (set marks p true) p ≡ true
has-set_same marks p inside = get_or-set_same marks p true false inside

-- one less passes, where just one place of the range changes
count-drop : (f f' : ℕ → Bool) (n a p : ℕ) → a ≤ p → p < a + n → f p ≡ true → f' p ≡ false → ((x : ℕ) → x ≢ p → f' x ≡ f x)
    → count_by f' (range_with_len a n) + 1 ≡ count_by f (range_with_len a n)
count-drop f f' zero a p low high was is others = absurd (omega arith)
count-drop f f' (suc n) a p low high was is others =
    let split : count_by f (range_with_len a (suc n)) ≡ cond (f a) 1 0 + count_by f (range_with_len (a + 1) n) = sum_by-cons (λ x. cond (f x) 1 0) a (range_with_len (a + 1) n) in
    let split' : count_by f' (range_with_len a (suc n)) ≡ cond (f' a) 1 0 + count_by f' (range_with_len (a + 1) n) = sum_by-cons (λ x. cond (f' x) 1 0) a (range_with_len (a + 1) n) in
    elim (cases_eq a p) [
      | inl here ↦
          let rest = count-same f' f (a + 1) n (λ x from to. others x (λ e. omega arith)) in
          let w : cond {A = ℕ} (f a) 1 0 ≡ 1 = ap (λ b. cond b 1 0) (ap f here ∙ was) in
          let z : cond {A = ℕ} (f' a) 1 0 ≡ 0 = ap (λ b. cond b 1 0) (ap f' here ∙ is) in omega arith
      | inr before ↦
          let rest = count-drop f f' n (a + 1) p (omega arith) (omega arith) was is others in
          let same : cond {A = ℕ} (f' a) 1 0 ≡ cond (f a) 1 0 = ap (λ b. cond b 1 0) (others a before) in omega arith
    ]

-- a mark leaves one partition less unmarked in a piece that its partition touches
pub unmarked-touched : (g : Shape) (marks : List Bool) (p i : ℕ) → p < length marks → has marks p ≡ false → first_part g i ≤ p → p < first_part g i + need_count g i
    → unmarked g (set marks p true) i + 1 ≡ unmarked g marks i
unfolding unmarked needed
unmarked-touched g marks p i inside free low high =
    count-drop (λ x. not (has marks x)) (λ x. not (has (set marks p true) x)) (need_count g i) (first_part g i) p low high (ap not free)
    (ap not (has-set_same marks p inside)) (λ x other. ap not (has-set_other marks p x other))

-- and as many as before in one that it doesn't touch
pub unmarked-apart : (g : Shape) (marks : List Bool) (p i : ℕ) → (p < first_part g i) ⊎ (first_part g i + need_count g i ≤ p)
    → unmarked g (set marks p true) i ≡ unmarked g marks i
unfolding unmarked needed
unmarked-apart g marks p i out =
    count-same (λ x. not (has (set marks p true) x)) (λ x. not (has marks x)) (first_part g i) (need_count g i)
    (λ x low high. ap not (has-set_other marks p x (λ e. elim out [ inl below ↦ absurd (omega arith) | inr above ↦ absurd (omega arith) ])))
