-- Counting down, turn by turn: the places passed have one less, the others what they had, and those passed that became
-- 0 are counted.
use Rattle.std.proofs.Common.{◌≡◌, ℕ, zero, suc, zero-add, add-zero, ◌+◌, ◌-◌, ◌<◌, ◌≤◌, ◌==◌, Bool, cond, List, [], length, get_or, set, count_by, refl, ap, sym, ◌∙◌, arith, inl, inr}
use Rattle.std.specs.List.{range_with_len}
use Rattle.std.proofs.lemmas.Bool.{cases_eq}
use Rattle.std.proofs.lemmas.List.{length-set, get_or-set_same, get_or-set_other}
use Rattle.std.proofs.lemmas.List.Sums.{sum_by-cons}
use Rattle.std.proofs.Math.Nat.{add_assoc, suc-add}
use Rattle.plain_pair.specs.Lessens.{Lessens}

-- before the first turn nothing is less
pub lessens_none : (xs : List ℕ) (first : ℕ) → Lessens xs xs first first
lessens_none xs first = record {
  size = refl;
  inside = λ i low high. absurd (omega arith);
  outside = λ i out. refl;
}

-- a turn makes the number at the next place one less
pub lessens_more : (old mid new : List ℕ) (first i : ℕ) → Lessens old mid first i → first ≤ i → i < length old → new ≡ set mid i (get_or mid i 0 - 1) → Lessens old new first (i + 1)
lessens_more old mid new first i h low inside is =
    let size = h.size in
    rw is record {
      size = length-set mid i _ ∙ h.size;
      inside = λ j from to. elim (cases_eq j i) [
        | inl same ↦
            let e = h.outside i (inr (omega arith)) in
            rw same (get_or-set_same mid i (get_or mid i 0 - 1) 0 (omega arith) ∙ ap (λ n. n - 1) e)
        | inr other ↦ get_or-set_other mid i j _ 0 other ∙ h.inside j from (omega arith)
      ];
      outside = λ j out.
          get_or-set_other mid i j _ 0 (λ e. elim out [ inl below ↦ absurd (omega arith) | inr above ↦ absurd (omega arith) ])
          ∙ h.outside j (elim out [ inl below ↦ inl below | inr above ↦ inr (omega arith) ]);
    }

-- what was there is there until its turn
pub not_yet : (old mid : List ℕ) (first i : ℕ) → Lessens old mid first i → first ≤ i → get_or mid i 0 ≡ get_or old i 0
not_yet old mid first i h low = h.outside i (inr (omega arith))

-- a count over two ranges, one after another
pub count-split : (p : ℕ → Bool) (m a n : ℕ) → count_by p (range_with_len a (m + n)) ≡ count_by p (range_with_len a m) + count_by p (range_with_len (a + m) n)
count-split p zero a n = rw (zero-add, add-zero) (sym (zero-add _))
count-split p (suc m) a n =
    let e : a + 1 + m ≡ a + suc m = omega arith in
    let rest = count-split p m (a + 1) n in
    rw suc-add (sum_by-cons (λ x. cond (p x) 1 0) a (range_with_len (a + 1) (m + n)) ∙ ap (λ k. cond (p a) 1 0 + k) rest
    ∙ sym (add_assoc (cond (p a) 1 0) (count_by p (range_with_len (a + 1) m)) (count_by p (range_with_len (a + 1 + m) n)))
    ∙ ap (λ k. k + count_by p (range_with_len (a + 1 + m) n)) (sym (sum_by-cons (λ x. cond (p x) 1 0) a (range_with_len (a + 1) m)))
    ∙ ap (λ k. count_by p (range_with_len a (suc m)) + count_by p (range_with_len k n)) e)

-- a count over one number is 1 where it passes, and else 0
pub count-one : (p : ℕ → Bool) (a : ℕ) → count_by p (range_with_len a 1) ≡ cond (p a) 1 0
count-one p a = sum_by-cons (λ x. cond (p x) 1 0) a [] ∙ add-zero _

-- one more in the range
pub count-more : (p : ℕ → Bool) (first i : ℕ) → first ≤ i → count_by p (range_with_len first (i + 1 - first)) ≡ count_by p (range_with_len first (i - first)) + cond (p i) 1 0
count-more p first i low =
    let e : i + 1 - first ≡ i - first + 1 = omega arith in
    let z : first + (i - first) ≡ i = omega arith in
    rw (e, count-split p (i - first) first 1, z, count-one p i) refl

-- a turn of counting down: the counts, and how many became whole
pub counted : (old mid new : List ℕ) (first i whole : ℕ) (b : Bool) → Lessens old mid first i → first ≤ i → i < length old
    → new ≡ set mid i (get_or mid i 0 - 1) → b ≡ (get_or mid i 0 == 1)
    → whole ≡ count_by (λ j. get_or old j 0 == 1) (range_with_len first (i - first))
    → whole + cond b 1 0 ≡ count_by (λ j. get_or old j 0 == 1) (range_with_len first (i + 1 - first))
counted old mid new first i whole b h low inside is test before =
    rw (before, test, not_yet old mid first i h low) (sym (count-more (λ j. get_or old j 0 == 1) first i low))
