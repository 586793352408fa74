-- A seat's list of slots that is a row: its values, and what it is after a slot in it was exchanged or its beginning went home.
use Rattle.std.proofs.Common.{◌≡◌, ℕ, zero, suc, ◌+◌, ◌-◌, ◌≤◌, List, [], ◌∷◌, length, drop, set, refl, sym, ap, ◌∙◌, arith}
use mathlib.Core.Option.{some, some-injective, some-ne-none}
use lib.ListN.{get_elem?}
use Rattle.slot_rows.specs.Lists.{row}
use Rattle.slot_rows.proofs.Overlays.{row_at}
use Rattle.pair_rule.specs.Seats.{values}

module _ {S : Type 0} where
  -- the values of a row of slots
  pub values_row : (k : ℕ) (ys : List S) → values (row k ys) ≡ ys
  values_row k [] = refl
  values_row k (y ∷ ys) = ap (λ (l : List S). y ∷ l) (values_row (suc k) ys)

  pub values_length : (l : List (ℕ × S)) → length (values l) ≡ length l
  values_length [] = refl
  values_length (x ∷ l) = ap suc (values_length l)

  -- a value is set with its slot
  pub values_set : (l : List (ℕ × S)) (c : ℕ) (x : ℕ × S) → values (set l c x) ≡ set (values l) c x.1
  values_set [] c x = refl
  values_set (y ∷ l) zero x = refl
  values_set (y ∷ l) (suc c) x = ap (λ (z : List S). y.1 ∷ z) (values_set l c x)

  pub values_drop : (n : ℕ) (l : List (ℕ × S)) → values (drop n l) ≡ drop n (values l)
  values_drop zero l = refl
  values_drop (suc n) [] = refl
  values_drop (suc n) (x ∷ l) = values_drop n l

  pub values_at : (l : List (ℕ × S)) (c : ℕ) (x : ℕ × S) → get_elem? l c ≡ some x → get_elem? (values l) c ≡ some x.1
  values_at [] c x e = absurd (some-ne-none x (sym e))
  values_at (y ∷ l) zero x e = ap (λ (z : ℕ × S). some z.1) (some-injective y x e)
  values_at (y ∷ l) (suc c) x e = values_at l c x e

  row_set : (k : ℕ) (ys : List S) (c : ℕ) (y : S) → set (row k ys) c (k + c, y) ≡ row k (set ys c y)
  row_set k [] c y = refl
  row_set k (x ∷ xs) zero y = ap (λ (n : ℕ). (n, y) ∷ row (suc k) xs) (let e : k + 0 ≡ k = omega arith in e)
  row_set k (x ∷ xs) (suc c) y =
      ap (λ (l : List (ℕ × S)). (k, x) ∷ l) (ap (λ (n : ℕ). set (row (suc k) xs) c (n, y)) (let e : k + suc c ≡ suc k + c = omega arith in e) ∙ row_set (suc k) xs c y)

  row_drop : (n k : ℕ) (ys : List S) → drop n (row k ys) ≡ row (k + n) (drop n ys)
  row_drop zero k ys = ap (λ (m : ℕ). row m ys) (let e : k ≡ k + 0 = omega arith in e)
  row_drop (suc n) k [] = refl
  row_drop (suc n) k (y ∷ ys) = row_drop n (suc k) ys ∙ ap (λ (m : ℕ). row m (drop n ys)) (let e : suc k + n ≡ k + suc n = omega arith in e)

  -- what stands in a row at a slot's place
  pub slot_at : (l : List (ℕ × S)) (k n : ℕ) (y : S) → l ≡ row k (values l) → k ≤ n → get_elem? (values l) (n - k) ≡ some y → get_elem? l (n - k) ≡ some (n, y)
  slot_at l k n y is low at =
      ap (λ (z : List (ℕ × S)). get_elem? z (n - k)) is
      ∙ (row_at k (values l) (n - k) y at ∙ ap (λ (m : ℕ). some (m, y)) (let e : k + (n - k) ≡ n = omega arith in e))

  -- the row after that slot got another value
  pub slot_set : (l : List (ℕ × S)) (k n : ℕ) (y : S) → l ≡ row k (values l) → k ≤ n → set l (n - k) (n, y) ≡ row k (values (set l (n - k) (n, y)))
  slot_set l k n y is low =
      let e : n ≡ k + (n - k) = omega arith in
      (λ i. set (is i) (n - k) (e i, y)) ∙ (row_set k (values l) (n - k) y ∙ ap (row k) (sym (values_set l (n - k) (n, y))))

  -- the row after its first n slots went home
  pub slots_gone : (l : List (ℕ × S)) (k n : ℕ) → l ≡ row k (values l) → drop n l ≡ row (k + n) (values (drop n l))
  slots_gone l k n is = ap (drop n) is ∙ (row_drop n k (values l) ∙ ap (row (k + n)) (sym (values_drop n l)))

  -- a list that is a row
  pub of_row : (l : List (ℕ × S)) (k : ℕ) (ys : List S) → l ≡ row k ys → l ≡ row k (values l)
  of_row l k ys is = is ∙ ap (row k) (sym (ap values is ∙ values_row k ys))
