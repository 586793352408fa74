-- Tests over ranges: how many pass, and whether all do. Each fact is by induction over the length of the range.
use Rattle.std.proofs.Common.{◌≡◌, ℕ, zero, suc, ◌+◌, ◌<◌, ◌≤◌, Bool, true, false, cond, count_by, replicate, refl, ap, sym, ◌∙◌, arith, inl, inr}
use Rattle.std.specs.List.{range_with_len, list_all}
use Rattle.std.proofs.lemmas.Bool.{cases_lt, and_from, and_left, and_right, and_parts}
use Rattle.std.proofs.lemmas.List.{get_or-replicate, get_or_past, length-replicate}
use Rattle.std.proofs.lemmas.List.Sums.{sum_by-cons}
use Rattle.plain_pair.specs.Kept.{has}

-- nothing is among none
pub has-none : (n p : ℕ) → has (replicate n false) p ≡ false
has-none n p =
    elim (cases_lt p n) [
      | inl inside ↦ get_or-replicate n p false false inside
      | inr past ↦ get_or_past (replicate n false) p false (let e = length-replicate n false in omega arith)
    ]

-- where each number of a range passes, all do
pub list_all-range : (p : ℕ → Bool) (a n : ℕ) → ((x : ℕ) → a ≤ x → x < a + n → p x ≡ true) → list_all p (range_with_len a n) ≡ true
list_all-range p a zero each = refl
list_all-range p a (suc n) each =
    and_from (p a) (list_all p (range_with_len (a + 1) n)) (each a (omega arith) (omega arith))
    (list_all-range p (a + 1) n (λ x low high. each x (omega arith) (omega arith)))

-- where all do, each does
pub list_all-each : (p : ℕ → Bool) (a n : ℕ) → list_all p (range_with_len a n) ≡ true → (x : ℕ) → a ≤ x → x < a + n → p x ≡ true
list_all-each p a zero all x low high = absurd (omega arith)
list_all-each p a (suc n) all x low high =
    let h = and_parts (p a) (list_all p (range_with_len (a + 1) n)) all in
    elim (cases_lt a x) [
      | inl later ↦ list_all-each p (a + 1) n h.1 x (omega arith) (omega arith)
      | inr here ↦ rw (let e : x ≡ a = omega arith in e) h.0
    ]

-- where one doesn't, not all do
pub list_all-not : (p : ℕ → Bool) (a n x : ℕ) → a ≤ x → x < a + n → p x ≡ false → list_all p (range_with_len a n) ≡ false
list_all-not p a zero x low high none = absurd (omega arith)
list_all-not p a (suc n) x low high none =
    elim (cases_lt a x) [
      | inl later ↦ and_right (p a) (list_all p (range_with_len (a + 1) n)) (list_all-not p (a + 1) n x (omega arith) (omega arith) none)
      | inr here ↦ and_left (p a) (list_all p (range_with_len (a + 1) n)) (rw (let e : a ≡ x = omega arith in e) none)
    ]

-- where each number of a range passes, as many are counted as it has
pub count-all : (p : ℕ → Bool) (a n : ℕ) → ((x : ℕ) → a ≤ x → x < a + n → p x ≡ true) → count_by p (range_with_len a n) ≡ n
count-all p a zero each = refl
count-all p a (suc n) each =
    let rest = count-all p (a + 1) n (λ x low high. each x (omega arith) (omega arith)) in
    rw (sum_by-cons, each a (omega arith) (omega arith), rest) (omega arith)

-- where none passes, none is counted
pub count-none : (p : ℕ → Bool) (a n : ℕ) → ((x : ℕ) → a ≤ x → x < a + n → p x ≡ false) → count_by p (range_with_len a n) ≡ 0
count-none p a zero each = refl
count-none p a (suc n) each =
    let rest = count-none p (a + 1) n (λ x low high. each x (omega arith) (omega arith)) in
    rw (sum_by-cons, each a (omega arith) (omega arith), rest) refl

-- two tests that agree on a range count the same
pub count-same : (p q : ℕ → Bool) (a n : ℕ) → ((x : ℕ) → a ≤ x → x < a + n → p x ≡ q x) → count_by p (range_with_len a n) ≡ count_by q (range_with_len a n)
count-same p q a zero each = refl
count-same p q a (suc n) each =
    let rest = count-same p q (a + 1) n (λ x low high. each x (omega arith) (omega arith)) in
    let here = each a (omega arith) (omega arith) in
    sum_by-cons (λ x. cond (p x) 1 0) a (range_with_len (a + 1) n) ∙ ap (λ b. cond b 1 0 + count_by p (range_with_len (a + 1) n)) here
    ∙ ap (λ m. cond (q a) 1 0 + m) rest ∙ sym (sum_by-cons (λ x. cond (q x) 1 0) a (range_with_len (a + 1) n))
