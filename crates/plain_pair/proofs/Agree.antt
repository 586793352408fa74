-- The sender's round as it is kept and as the record has it. Where that round is released already, a pair that stands
-- for a record need not agree on its marks; but as many pieces are out by both, and by what is kept all of them are, so
-- each partition is marked in both.
use Rattle.std.proofs.Common.{◌≡◌, ℕ, zero, suc, ◌+◌, ◌-◌, ◌*◌, ◌<◌, ◌≤◌, Bool, true, cond, ◌&&◌, List, [], ◌∷◌, length, get_or, count_by, sum_by, refl, ap, sym, ◌∙◌, arith, inl, inr}
use Rattle.std.specs.List.{range_with_len, list_all}
use Rattle.std.proofs.lemmas.Bool.{cases_lt, cases_Bool, eq-eqb, le-ltb}
use Rattle.std.proofs.lemmas.List.Sums.{sum_by-cons, count_by-le-length}
use Rattle.std.proofs.lemmas.List.FromFn.{length-range_with_len}
use Rattle.std.proofs.Math.Nat.{suc-mul}
use Rattle.part_geometry.specs.Shape.{Shape, IsShape}
use Rattle.part_geometry.specs.Cells.{cells, send_of}
use Rattle.part_geometry.specs.Pieces.{pieces, piece_of, first_part, need_count, needed}
use Rattle.part_geometry.proofs.PieceFacts.{piece_of-holds, Touches-range, need_count-pos}
use Rattle.part_geometry.proofs.Rows.{row-hits, send-row}
use Rattle.plain_pair.specs.Record.{Record, Round, no_marks, round_of, is_marked, is_out, round_out, pieces_out}
use Rattle.plain_pair.specs.Kept.{Kept, has, is_whole}
use Rattle.plain_pair.specs.Sound.{IsSound}
use Rattle.plain_pair.specs.StandsFor.{StandsFor}
use Rattle.plain_pair.proofs.Counts.{list_all-each}
use Rattle.plain_pair.proofs.Rounds.{needed_below}
use Rattle.plain_pair.proofs.Starts.{kept_out-whole}

-- two tests that agree on a range both pass it or neither
pub list_all-same : (p q : ℕ → Bool) (a n : ℕ) → ((x : ℕ) → a ≤ x → x < a + n → p x ≡ q x) → list_all p (range_with_len a n) ≡ list_all q (range_with_len a n)
list_all-same p q a zero each = refl
list_all-same p q a (suc n) each =
    let rest = list_all-same p q (a + 1) n (λ x low high. each x (omega arith) (omega arith)) in
    ap (λ b. b && list_all p (range_with_len (a + 1) n)) (each a (omega arith) (omega arith)) ∙ ap (λ b. q a && b) rest

-- where all of a range are counted, each passes
pub count-full : (p : ℕ → Bool) (n a : ℕ) → count_by p (range_with_len a n) ≡ n → (x : ℕ) → a ≤ x → x < a + n → p x ≡ true
count-full p zero a full x low high = absurd (omega arith)
count-full p (suc n) a full x low high =
    let split : count_by p (range_with_len a (suc n)) ≡ cond {A = ℕ} (p a) 1 0 + count_by p (range_with_len (a + 1) n) = sum_by-cons (λ y. cond (p y) 1 0) a (range_with_len (a + 1) n) in
    let few = count_by-le-length p (range_with_len (a + 1) n) in
    let size = length-range_with_len (a + 1) n in
    elim (cases_Bool (p a)) [
      | inl here ↦
          let one : cond {A = ℕ} (p a) 1 0 ≡ 1 = ap (λ b. cond b 1 0) here in
          elim (cases_lt a x) [
            | inl later ↦ count-full p n (a + 1) (omega arith) x (omega arith) (omega arith)
            | inr now ↦ ap p (let e : x ≡ a = omega arith in e) ∙ here
          ]
      | inr missing ↦ let none : cond {A = ℕ} (p a) 1 0 ≡ 0 = ap (λ b. cond b 1 0) missing in absurd (omega arith)
    ]

-- a sum of parts of at most m each is at most m for each item
sum-most : (f : Round → ℕ) (m : ℕ) (xs : List Round) → ((x : Round) → f x ≤ m) → sum_by f xs ≤ length xs * m
sum-most f m [] most = omega arith
sum-most f m (x ∷ xs) most =
    let split : sum_by f (x ∷ xs) ≡ f x + sum_by f xs = sum_by-cons f x xs in
    let rest = sum-most f m xs most in
    let here = most x in
    let size : suc (length xs) * m ≡ length xs * m + m = suc-mul (length xs) m in omega arith

-- where the sum is as great as that, each part is m
pub sum-full : (f : Round → ℕ) (m : ℕ) (xs : List Round) → ((x : Round) → f x ≤ m) → sum_by f xs ≡ length xs * m → (k : ℕ) → k < length xs → f (get_or xs k no_marks) ≡ m
sum-full f m [] most full k inside = absurd (omega arith)
sum-full f m (x ∷ xs) most full zero inside =
    let split : sum_by f (x ∷ xs) ≡ f x + sum_by f xs = sum_by-cons f x xs in
    let rest = sum-most f m xs most in
    let here = most x in
    let size : suc (length xs) * m ≡ length xs * m + m = suc-mul (length xs) m in omega arith
sum-full f m (x ∷ xs) most full (suc k) inside =
    let split : sum_by f (x ∷ xs) ≡ f x + sum_by f xs = sum_by-cons f x xs in
    let rest = sum-most f m xs most in
    let here = most x in
    let size : suc (length xs) * m ≡ length xs * m + m = suc-mul (length xs) m in
    sum-full f m xs most (omega arith) k (omega arith)

-- no more pieces of a round are out than there are
round_out-le : (g : Shape) (round : Round) → round_out g round ≤ pieces g
unfolding round_out
round_out-le g round = let h = count_by-le-length (is_out g round) (range_with_len 0 (pieces g)) in let e = length-range_with_len 0 (pieces g) in omega arith

-- each send partition is among those that some piece touches
pub some_piece : (g : Shape) (v : IsShape g) (p : ℕ) → p < g.send_parts → (i : ℕ) × (i < pieces g) × (first_part g i ≤ p) × (p < first_part g i + need_count g i)
some_piece g v p inside =
    let row = send-row g v in
    let some = row.some in let first = row.first in let last = row.last in
    let e : 0 + (cells g - 1) ≡ cells g - 1 = omega arith in
    let z : send_of g (0 + (cells g - 1)) ≡ send_of g (cells g - 1) = ap (send_of g) e in
    let d = row-hits (send_of g) (cells g) g.send_parts row 0 (cells g - 1) p (omega arith) (omega arith) (omega arith) in
    let du = d.2 in
    let h = piece_of-holds g d.0 (omega arith) in
    let r = (Touches-range g v (piece_of g d.0) p h.inside).0 (d.0, h.low, h.high, d.3) in
    let pos = need_count-pos g v (piece_of g d.0) h.inside in
    (piece_of g d.0, h.inside, r.0, (let u = r.1 in omega arith))

-- where all pieces of a round are out, each partition is marked
out_marked : (g : Shape) (v : IsShape g) (round : Round) → round_out g round ≡ pieces g → (p : ℕ) → p < g.send_parts → is_marked round p ≡ true
unfolding round_out is_out needed
out_marked g v round full p inside =
    let s = some_piece g v p inside in
    let out = count-full (is_out g round) (pieces g) 0 full s.0 (omega arith) (let h = s.1 in omega arith) in
    list_all-each (is_marked round) (first_part g s.0) (need_count g s.0) out p s.2 s.3

-- in the sender's round the record has the marks that are kept, also where it is released already
pub marks_now : (k : Kept) (missing : List ℕ) (r : Record) → IsSound k missing → StandsFor k r → 0 < k.sent → (p : ℕ) → p < k.shape.send_parts
    → has k.marked p ≡ is_marked (round_of r k.sent) p
unfolding pieces_out
marks_now k missing r s st some p inside =
    let g = k.shape in
    let sent_is = st.sent in let released_is = st.released in
    let low = s.rounds.released in
    elim (cases_lt k.released k.sent) [
      | inl before ↦
          let e = st.marks k.sent p (omega arith) (omega arith) inside in
          sym (rw (le-ltb k.sent k.sent (omega arith), eq-eqb k.sent k.sent refl) refl) ∙ e
      | inr after ↦
          let whole = s.done (omega arith) some in
          let out = sym (kept_out-whole k s.shape (λ q pos in'. whole q in')) ∙ st.out in
          let full = sum-full (round_out g) (pieces g) r.rounds (round_out-le g) (sym out ∙ ap (λ n. n * pieces g) sent_is) (k.sent - 1) (omega arith) in
          whole p inside ∙ sym (out_marked g s.shape (round_of r k.sent) full p inside)
    ]

-- so the pieces that are out of it are those that are whole
pub out_now : (k : Kept) (missing : List ℕ) (r : Record) → IsSound k missing → StandsFor k r → 0 < k.sent → (i : ℕ) → i < pieces k.shape
    → is_whole k.shape k.marked i ≡ is_out k.shape (round_of r k.sent) i
unfolding is_whole is_out needed
out_now k missing r s st some i inside =
    list_all-same (has k.marked) (is_marked (round_of r k.sent)) (first_part k.shape i) (need_count k.shape i)
    (λ p low high. marks_now k missing r s st some p (needed_below k.shape s.shape i p inside high low))
