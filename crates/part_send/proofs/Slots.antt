-- Lists by their places, and lists in which each item is as its number asks, shown along the list.
use Rattle.std.proofs.Common.{◌≡◌, ◌≢◌, ℕ, zero, suc, ◌+◌, ◌-◌, ◌<◌, ◌≤◌, List, [], ◌∷◌, ◌++◌, length, map, take, drop, refl, ap, subst, arith}
use Rattle.std.specs.Prelude.{slice_set}
use mathlib.Core.Option.{some}
use lib.ListN.{get_elem?}
use Rattle.slot_rows.specs.Lists.{Every}

module _ {X : Type 0} where
  -- a place that has an item is within the list
  pub at_in : (xs : List X) (i : ℕ) (a : X) → get_elem? xs i ≡ some a → i < length xs
  at_in [] i a e = absurd (cc)
  at_in (x ∷ xs) zero a e = omega arith
  at_in (x ∷ xs) (suc i) a e = let low = at_in xs i a e in omega arith

  -- and each place within the list has one
  pub in_at : (xs : List X) (i : ℕ) → i < length xs → (a : X) × (get_elem? xs i ≡ some a)
  in_at [] i low = absurd (omega arith)
  in_at (x ∷ xs) zero low = (x, refl)
  in_at (x ∷ xs) (suc i) low = in_at xs i (omega arith)

  -- the item that was put at a place is there
  pub set_here : (xs : List X) (i : ℕ) (b : X) → i < length xs → get_elem? (slice_set xs i b) i ≡ some b
  set_here [] i b low = absurd (omega arith)
  set_here (x ∷ xs) zero b low = refl
  set_here (x ∷ xs) (suc i) b low = set_here xs i b (omega arith)

  -- and any other place has what it had
  pub set_else : (xs : List X) (i j : ℕ) (b : X) → j ≢ i → get_elem? (slice_set xs i b) j ≡ get_elem? xs j
  set_else [] i j b other = refl
  set_else (x ∷ xs) zero zero b other = absurd (other refl)
  set_else (x ∷ xs) zero (suc j) b other = refl
  set_else (x ∷ xs) (suc i) zero b other = refl
  set_else (x ∷ xs) (suc i) (suc j) b other = set_else xs i j b (λ e. other (ap suc e))

  -- each item is as its number asks, where this holds at each place
  pub every_at : (P : ℕ → X → Type 0) (k : ℕ) (xs : List X) → Every P k xs → (j : ℕ) (y : X) → get_elem? xs j ≡ some y → P (k + j) y
  every_at P k [] each j y e = absurd (cc)
  every_at P k (x ∷ xs) each zero y e =
      let same : x ≡ y = cc in let z : k ≡ k + 0 = omega arith in subst (λ (n : ℕ). P n y) z (subst (P k) same each.0)
  every_at P k (x ∷ xs) each (suc j) y e = let z : suc k + j ≡ k + suc j = omega arith in subst (λ (n : ℕ). P n y) z (every_at P (suc k) xs each.1 j y e)

  -- and it holds of all where it does at each place
  pub every_from : (P : ℕ → X → Type 0) (k : ℕ) (xs : List X) → ((j : ℕ) (y : X) → get_elem? xs j ≡ some y → P (k + j) y) → Every P k xs
  every_from P k [] at = tt
  every_from P k (x ∷ xs) at =
      let z : k + 0 ≡ k = omega arith in
      (subst (λ (n : ℕ). P n x) z (at 0 x refl), every_from P (suc k) xs (λ j y e. let s : k + suc j ≡ suc k + j = omega arith in subst (λ (n : ℕ). P n y) s (at (suc j) y e)))

module _ {X Y : Type 0} (f : X → Y) where
  -- a mapped list has at a place what the item there is mapped to
  pub map_at : (xs : List X) (i : ℕ) (a : X) → get_elem? xs i ≡ some a → get_elem? (map f xs) i ≡ some (f a)
  map_at [] i a e = absurd (cc)
  map_at (x ∷ xs) zero a e = let same : x ≡ a = cc in ap (λ (z : X). some (f z)) same
  map_at (x ∷ xs) (suc i) a e = map_at xs i a e

  -- to put a mapped item into a mapped list is to map the list with the item put
  pub set_map : (xs : List X) (i : ℕ) (b : X) → slice_set (map f xs) i (f b) ≡ map f (slice_set xs i b)
  set_map [] i b = refl
  set_map (x ∷ xs) zero b = refl
  set_map (x ∷ xs) (suc i) b = ap (λ (z : List Y). f x ∷ z) (set_map xs i b)

-- the first n items and the others
module _ {X : Type 0} where
  -- together they are the list
  pub halves : (n : ℕ) (xs : List X) → take n xs ++ drop n xs ≡ xs
  halves zero xs = refl
  halves (suc n) [] = refl
  halves (suc n) (x ∷ xs) = ap (λ (z : List X). x ∷ z) (halves n xs)

  -- where each item is as its number asks, so are the first n
  pub every_take : (P : ℕ → X → Type 0) (k n : ℕ) (xs : List X) → Every P k xs → Every P k (take n xs)
  every_take P k zero xs each = tt
  every_take P k (suc n) [] each = tt
  every_take P k (suc n) (x ∷ xs) each = (each.0, every_take P (suc k) n xs each.1)

  -- and the others, by the numbers from n on
  pub every_drop : (P : ℕ → X → Type 0) (k n : ℕ) (xs : List X) → Every P k xs → Every P (k + n) (drop n xs)
  every_drop P k zero xs each = let z : k ≡ k + 0 = omega arith in subst (λ (m : ℕ). Every P m xs) z each
  every_drop P k (suc n) [] each = tt
  every_drop P k (suc n) (x ∷ xs) each = let z : suc k + n ≡ k + suc n = omega arith in subst (λ (m : ℕ). Every P m (drop n xs)) z (every_drop P (suc k) n xs each.1)

  -- the first n are n, where the list has so many
  pub take_size : (n : ℕ) (xs : List X) → n ≤ length xs → length (take n xs) ≡ n
  take_size zero xs low = refl
  take_size (suc n) [] low = absurd (omega arith)
  take_size (suc n) (x ∷ xs) low = let rest = take_size n xs (omega arith) in omega arith

  -- the others are as many as the list has beyond n
  pub drop_size : (n : ℕ) (xs : List X) → length (drop n xs) ≡ length xs - n
  drop_size zero xs = omega arith
  drop_size (suc n) [] = omega arith
  drop_size (suc n) (x ∷ xs) = let rest = drop_size n xs in omega arith

module _ {X Y : Type 0} (f : X → Y) where
  -- both mapped, they are the mapped list
  pub map_halves : (n : ℕ) (xs : List X) → map f (take n xs) ++ map f (drop n xs) ≡ map f xs
  map_halves zero xs = refl
  map_halves (suc n) [] = refl
  map_halves (suc n) (x ∷ xs) = ap (λ (z : List Y). f x ∷ z) (map_halves n xs)

  -- the others of a mapped list are the others mapped
  pub drop_map : (n : ℕ) (xs : List X) → drop n (map f xs) ≡ map f (drop n xs)
  drop_map zero xs = refl
  drop_map (suc n) [] = refl
  drop_map (suc n) (x ∷ xs) = drop_map n xs
