-- How many pieces are out, by what is missing of each: all of the rounds before, and those of which nothing is missing
-- now.
use Rattle.std.proofs.Common.{◌≡◌, ℕ, zero, suc, add-zero, ◌+◌, ◌-◌, ◌*◌, ◌<◌, Bool, cond, not, ◌==◌, if◌then◌else◌, List, [], ◌∷◌, length, get_or, count_by, refl, ap, sym, ◌∙◌, arith, inl, inr}
use Rattle.std.specs.List.{range_with_len, list_all}
use Rattle.std.proofs.lemmas.Bool.{cases_Bool, ne_eqb}
use Rattle.std.proofs.lemmas.List.Sums.{sum_by-cons}
use Rattle.part_geometry.specs.Shape.{Shape}
use Rattle.part_geometry.specs.Pieces.{needed, first_part, need_count}
use Rattle.plain_pair.specs.Kept.{Kept, has, is_whole, kept_out}
use Rattle.plain_pair.specs.Sound.{IsSound, unmarked}

-- nothing of a range is missing exactly where all of it is there
none_missing : (f : ℕ → Bool) (a n : ℕ) → (count_by (λ p. not (f p)) (range_with_len a n) == 0) ≡ list_all f (range_with_len a n)
none_missing f a zero = refl
none_missing f a (suc n) =
    let rest = none_missing f (a + 1) n in
    let split = sum_by-cons (λ p. cond (not (f p)) 1 0) a (range_with_len (a + 1) n) in
    elim (cases_Bool (f a)) [
      | inl there ↦
          let e : count_by (λ p. not (f p)) (range_with_len a (suc n)) ≡ count_by (λ p. not (f p)) (range_with_len (a + 1) n) =
          split ∙ rw there (let z : 0 + count_by (λ p. not (f p)) (range_with_len (a + 1) n) ≡ count_by (λ p. not (f p)) (range_with_len (a + 1) n) = omega arith in z) in
          rw (e, there) rest
      | inr missing ↦
          let e : count_by (λ p. not (f p)) (range_with_len a (suc n)) ≡ 1 + count_by (λ p. not (f p)) (range_with_len (a + 1) n) = split ∙ rw missing refl in
          rw (e, missing) (ne_eqb _ _ (λ z. omega arith))
    ]

-- a count over a list is a count over its places
count-places : (p q : ℕ → Bool) (xs : List ℕ) (a : ℕ) → ((i : ℕ) → i < length xs → p (get_or xs i 0) ≡ q (a + i)) → count_by p xs ≡ count_by q (range_with_len a (length xs))
count-places p q [] a each = refl
count-places p q (x ∷ xs) a each =
    let rest = count-places p q xs (a + 1) (λ i inside. each (suc i) (omega arith) ∙ ap q (let z : a + suc i ≡ a + 1 + i = omega arith in z)) in
    let here : p x ≡ q a = each 0 (omega arith) ∙ ap q (add-zero a) in
    sum_by-cons (λ y. cond (p y) 1 0) x xs ∙ ap (λ b. cond b 1 0 + count_by p xs) here ∙ ap (λ m. cond (q a) 1 0 + m) rest
    ∙ sym (sum_by-cons (λ y. cond (q y) 1 0) a (range_with_len (a + 1) (length xs)))

-- a piece is whole exactly where none of its partitions is unmarked
pub whole-missing : (g : Shape) (marks : List Bool) (i : ℕ) → (unmarked g marks i == 0) ≡ is_whole g marks i
unfolding unmarked is_whole needed
whole-missing g marks i = none_missing (has marks) (first_part g i) (need_count g i)

-- the pieces out, reckoned by what is missing of each, are those that are kept
pub out-missing : (k : Kept) (missing : List ℕ) → IsSound k missing
    → (if k.sent == 0 then 0 else (k.sent - 1) * length missing + count_by (λ m. m == 0) missing) ≡ kept_out k
unfolding kept_out
out-missing k missing s =
    let g = k.shape in
    let size = s.sizes.missing_size in
    let counts = count-places (λ m. m == 0) (is_whole g k.marked) missing 0 (λ i inside.
    ap (λ m. m == 0) (s.counts i (omega arith)) ∙ whole-missing g k.marked i ∙ ap (is_whole g k.marked) (let z : i ≡ 0 + i = omega arith in z)) in
    rw (counts, size) refl
