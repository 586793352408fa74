-- A row of slots goes out, or comes home, in one act. The acts go by recursion on the row: the last slot is taken first, so that the first stands at the head, and the slots are given back from the head on.
use Rattle.std.proofs.Common.{append_assoc, ◌≡◌, ◌≢◌, ◌⊎◌, inl, inr, ⊎_elim, ℕ, zero, suc, ◌+◌, ◌<◌, ◌≤◌, List, [], ◌∷◌, ◌++◌, map, length, take, drop, set, refl, sym, ap, ◌∙◌, subst, arith, length-set, length-take-le, take-append-drop}
use mathlib.Core.Option.{Option, none, some, some-injective, some-ne-none}
use mathlib.Core.Logic.{dite}
use native.Mathlib.Decide.{ℕ_discrete}
use lib.ListN.{get_elem?, length-map}
use Rattle.std.proofs.Math.Seq.{drop-nil}
use Rattle.atomic_table.specs.Table.{Act, keeps, takes, gives, chain, homes_after, carried_after, Valid, put_back, rest}
use Rattle.atomic_table.proofs.Lists.{set_here, set_else}
use Rattle.slot_rows.specs.Lists.{row, Every}
use Rattle.slot_rows.proofs.Lists.{row_append}

module _ {S : Type 0} where
  -- the slots from k on, with these values, go out in front of the seat's list
  abbrev pub takes_row : ℕ → List S → Act S
  takes_row k [] = keeps
  takes_row k (y ∷ ys) = chain (takes_row (suc k) ys) (takes k y)

  -- the first n slots of the seat's list come home
  abbrev pub gives_row : ℕ → Act S
  gives_row zero = keeps
  gives_row (suc n) = chain gives (gives_row n)

  -- n slots from k on are out
  abbrev pub cleared : List (Option S) → ℕ → ℕ → List (Option S)
  cleared hs k zero = hs
  cleared hs k (suc n) = set (cleared hs (suc k) n) k none

  -- slots from k on are home with these values
  abbrev pub stocked : List (Option S) → ℕ → List S → List (Option S)
  stocked hs k [] = hs
  stocked hs k (y ∷ ys) = stocked (set hs k (some y)) (suc k) ys

  -- the slots from k on are home with these values, as far as the list goes
  abbrev pub Stand : List (Option S) → ℕ → List S → Type 0
  Stand hs k [] = Unit {0}
  Stand hs k (y ∷ ys) = (get_elem? hs k ≡ some (some y)) × Stand hs (suc k) ys

  pub taking_carries : (k : ℕ) (ys : List S) (c : List (ℕ × S)) → carried_after c (takes_row k ys) ≡ row k ys ++ c
  taking_carries k [] c = refl
  taking_carries k (y ∷ ys) c = ap (λ (l : List (ℕ × S)). (k, y) ∷ l) (taking_carries (suc k) ys c)

  pub taking_homes : (hs : List (Option S)) (c : List (ℕ × S)) (k : ℕ) (ys : List S) → homes_after hs c (takes_row k ys) ≡ cleared hs k (length ys)
  taking_homes hs c k [] = refl
  taking_homes hs c k (y ∷ ys) = ap (λ (h : List (Option S)). set h k none) (taking_homes hs c (suc k) ys)

  pub cleared_length : (hs : List (Option S)) (k n : ℕ) → length (cleared hs k n) ≡ length hs
  cleared_length hs k zero = refl
  cleared_length hs k (suc n) = length-set (cleared hs (suc k) n) k none ∙ cleared_length hs (suc k) n

  -- what stands at j after a row went out: in the row nothing, outside what stood there
  pub cleared_here : (hs : List (Option S)) (k n j : ℕ) → k ≤ j → j < k + n → k + n ≤ length hs → get_elem? (cleared hs k n) j ≡ some none
  cleared_here hs k zero j low high deep = absurd (omega arith)
  cleared_here hs k (suc n) j low high deep =
      dite (ℕ_discrete j k)
      (λ e. subst (λ (z : ℕ). get_elem? (cleared hs k (suc n)) z ≡ some none) (sym e) (set_here (cleared hs (suc k) n) k none (omega (arith, cleared_length hs (suc k) n))))
      (λ ne. set_else (cleared hs (suc k) n) k j none ne ∙ cleared_here hs (suc k) n j (omega arith) (omega arith) (omega arith))

  pub cleared_else : (hs : List (Option S)) (k n j : ℕ) → (j < k) ⊎ (k + n ≤ j) → get_elem? (cleared hs k n) j ≡ get_elem? hs j
  cleared_else hs k zero j o = refl
  cleared_else hs k (suc n) j o =
      let a : j ≢ k = λ e. ⊎_elim (λ (l : j < k). omega arith) (λ (l : k + suc n ≤ j). omega arith) o in
      set_else (cleared hs (suc k) n) k j none a ∙ cleared_else hs (suc k) n j (⊎_elim (λ (l : j < k). inl (omega arith)) (λ (l : k + suc n ≤ j). inr (omega arith)) o)

  -- a row may go out where its slots are home
  pub taking_valid : (hs : List (Option S)) (c : List (ℕ × S)) (k : ℕ) (ys : List S) → Stand hs k ys → Valid hs c (takes_row k ys)
  taking_valid hs c k [] h = tt
  taking_valid hs c k (y ∷ ys) h = (
    taking_valid hs c (suc k) ys h.1,
    ap (λ (l : List (Option S)). get_elem? l k) (taking_homes hs c (suc k) ys) ∙ (cleared_else hs (suc k) (length ys) k (inl (omega arith)) ∙ h.0),
  )

  pub giving_carries : (ys : List S) (k : ℕ) (c : List (ℕ × S)) → carried_after (row k ys ++ c) (gives_row (length ys)) ≡ c
  giving_carries [] k c = refl
  giving_carries (y ∷ ys) k c = giving_carries ys (suc k) c

  pub giving_homes : (hs : List (Option S)) (ys : List S) (k : ℕ) (c : List (ℕ × S)) → homes_after hs (row k ys ++ c) (gives_row (length ys)) ≡ stocked hs k ys
  giving_homes hs [] k c = refl
  giving_homes hs (y ∷ ys) k c = giving_homes (set hs k (some y)) ys (suc k) c

  -- slots may come home whatever the seat's list is
  pub giving_valid : (n : ℕ) (hs : List (Option S)) (c : List (ℕ × S)) → Valid hs c (gives_row n)
  giving_valid zero hs c = tt
  giving_valid (suc n) hs c = (tt, giving_valid n (put_back hs c) (rest c))

  -- the beginning of a row comes home, and what is left is a row
  pub giving_part : (k : ℕ) (xs ys : List S) (c : List (ℕ × S)) → carried_after (row k (xs ++ ys) ++ c) (gives_row (length xs)) ≡ row (k + length xs) ys ++ c
  giving_part k xs ys c =
      ap (λ (l : List (ℕ × S)). carried_after (l ++ c) (gives_row (length xs))) (row_append k xs ys)
      ∙ (ap (λ (l : List (ℕ × S)). carried_after l (gives_row (length xs))) (append_assoc (row k xs) (row (k + length xs) ys) c) ∙ giving_carries xs k (row (k + length xs) ys ++ c))

  -- and what is home then
  pub giving_part_homes : (hs : List (Option S)) (k : ℕ) (xs ys : List S) (c : List (ℕ × S)) → homes_after hs (row k (xs ++ ys) ++ c) (gives_row (length xs)) ≡ stocked hs k xs
  giving_part_homes hs k xs ys c =
      ap (λ (l : List (ℕ × S)). homes_after hs (l ++ c) (gives_row (length xs))) (row_append k xs ys)
      ∙ (ap (λ (l : List (ℕ × S)). homes_after hs l (gives_row (length xs))) (append_assoc (row k xs) (row (k + length xs) ys) c) ∙ giving_homes hs xs k (row (k + length xs) ys ++ c))

  pub stocked_length : (hs : List (Option S)) (k : ℕ) (ys : List S) → length (stocked hs k ys) ≡ length hs
  stocked_length hs k [] = refl
  stocked_length hs k (y ∷ ys) = stocked_length (set hs k (some y)) (suc k) ys ∙ length-set hs k (some y)

  -- outside the row the homes are as they were
  pub stocked_else : (hs : List (Option S)) (k : ℕ) (ys : List S) (j : ℕ) → (j < k) ⊎ (k + length ys ≤ j) → get_elem? (stocked hs k ys) j ≡ get_elem? hs j
  stocked_else hs k [] j o = refl
  stocked_else hs k (y ∷ ys) j o =
      let a : j ≢ k = λ e. ⊎_elim (λ (l : j < k). omega arith) (λ (l : k + suc (length ys) ≤ j). omega arith) o in
      stocked_else (set hs k (some y)) (suc k) ys j (⊎_elim (λ (l : j < k). inl (omega arith)) (λ (l : k + suc (length ys) ≤ j). inr (omega arith)) o) ∙ set_else hs k j (some y) a

module _ {S B : Type 0} (f : B → S) (P : ℕ → B → Type 0) where
  -- where each slot of a row is home with some value f b such that P asks it of b, the values are a list
  pub gathered : (hs : List (Option S)) (k n : ℕ) → ((j : ℕ) → k ≤ j → j < k + n → (b : B) × (get_elem? hs j ≡ some (some (f b))) × P j b)
      → (ys : List B) × (length ys ≡ n) × Stand hs k (map f ys) × Every P k ys
  gathered hs k zero each = ([], refl, tt, tt)
  gathered hs k (suc n) each =
      let b = each k (omega arith) (omega arith) in let r = gathered hs (suc k) n (λ j low high. each j (omega arith) (omega arith)) in
      (b.0 ∷ r.0, ap suc r.1, (b.1, r.2), (b.2, r.3))

  -- in the row each slot is home with a value that is as P asks
  pub stocked_here : (hs : List (Option S)) (k : ℕ) (ys : List B) (j : ℕ) → Every P k ys → k ≤ j → j < k + length ys → k + length ys ≤ length hs
      → (b : B) × (get_elem? (stocked hs k (map f ys)) j ≡ some (some (f b))) × P j b
  stocked_here hs k [] j all low high deep = absurd (omega arith)
  stocked_here hs k (y ∷ ys) j all low high deep =
      let next : List (Option S) = set hs k (some (f y)) in
      dite (ℕ_discrete j k)
      (λ e. (y, ap (get_elem? (stocked next (suc k) (map f ys))) e ∙ (stocked_else next (suc k) (map f ys) k (inl (omega arith)) ∙ set_here hs k (some (f y)) (omega arith)), subst (λ (z : ℕ). P z y) (sym e) all.0))
      (λ ne. stocked_here next (suc k) ys j all.1 (omega arith) (omega arith) (omega (arith, length-set hs k (some (f y)))))

  -- outside it the homes are as they were
  pub stocked_outside : (hs : List (Option S)) (k : ℕ) (ys : List B) (j : ℕ) → (j < k) ⊎ (k + length ys ≤ j) → get_elem? (stocked hs k (map f ys)) j ≡ get_elem? hs j
  stocked_outside hs k ys j o =
      let n : length (map f ys) ≡ length ys = length-map ys f in
      stocked_else hs k (map f ys) j (⊎_elim (λ (l : j < k). inl l) (λ (l : k + length ys ≤ j). inr (omega arith)) o)

module _ {S : Type 0} where
  -- giving back n slots drops n from the seat's list
  pub giving_drops : (n : ℕ) (c : List (ℕ × S)) → carried_after c (gives_row n) ≡ drop n c
  giving_drops zero c = refl
  giving_drops (suc n) [] = giving_drops n [] ∙ drop-nil n
  giving_drops (suc n) (x ∷ c) = giving_drops n c

  -- the first n of a row come home, by number
  pub giving_first : (n k : ℕ) (ys : List S) (c : List (ℕ × S)) → n ≤ length ys → carried_after (row k ys ++ c) (gives_row n) ≡ row (k + n) (drop n ys) ++ c
  giving_first n k ys c h =
      let e : length (take n ys) ≡ n = length-take-le n ys h in
      ap (λ (z : List S). carried_after (row k z ++ c) (gives_row n)) (sym (take-append-drop n ys))
      ∙ subst (λ (m : ℕ). carried_after (row k (take n ys ++ drop n ys) ++ c) (gives_row m) ≡ row (k + m) (drop n ys) ++ c) e (giving_part k (take n ys) (drop n ys) c)

  -- and what is home then
  pub giving_first_homes : (hs : List (Option S)) (n k : ℕ) (ys : List S) (c : List (ℕ × S)) → n ≤ length ys → homes_after hs (row k ys ++ c) (gives_row n) ≡ stocked hs k (take n ys)
  giving_first_homes hs n k ys c h =
      let e : length (take n ys) ≡ n = length-take-le n ys h in
      ap (λ (z : List S). homes_after hs (row k z ++ c) (gives_row n)) (sym (take-append-drop n ys))
      ∙ subst (λ (m : ℕ). homes_after hs (row k (take n ys ++ drop n ys) ++ c) (gives_row m) ≡ stocked hs k (take n ys)) e (giving_part_homes hs k (take n ys) (drop n ys) c)

module _ {S : Type 0} where
  -- the i-th value of a row stands at its slot
  pub stocked_at : (hs : List (Option S)) (k : ℕ) (ys : List S) (i : ℕ) (y : S) → get_elem? ys i ≡ some y → k + length ys ≤ length hs → get_elem? (stocked hs k ys) (k + i) ≡ some (some y)
  stocked_at hs k [] i y e deep = absurd (some-ne-none y (sym e))
  stocked_at hs k (x ∷ xs) zero y e deep =
      let n : k + 0 ≡ k = omega arith in
      ap (get_elem? (stocked (set hs k (some x)) (suc k) xs)) n
      ∙ (stocked_else (set hs k (some x)) (suc k) xs k (inl (omega arith)) ∙ (set_here hs k (some x) (omega arith) ∙ ap (λ (z : S). some (some z)) (some-injective x y e)))
  stocked_at hs k (x ∷ xs) (suc i) y e deep =
      let n : k + suc i ≡ suc k + i = omega arith in
      ap (get_elem? (stocked (set hs k (some x)) (suc k) xs)) n ∙ stocked_at (set hs k (some x)) (suc k) xs i y e (omega (arith, length-set hs k (some x)))

  -- the i-th value of a row that stands
  pub stand_at : (hs : List (Option S)) (k : ℕ) (ys : List S) (i : ℕ) (y : S) → Stand hs k ys → get_elem? ys i ≡ some y → get_elem? hs (k + i) ≡ some (some y)
  stand_at hs k [] i y h e = absurd (some-ne-none y (sym e))
  stand_at hs k (x ∷ xs) zero y h e = ap (get_elem? hs) (let n : k + 0 ≡ k = omega arith in n) ∙ (h.0 ∙ ap (λ (z : S). some (some z)) (some-injective x y e))
  stand_at hs k (x ∷ xs) (suc i) y h e = ap (get_elem? hs) (let n : k + suc i ≡ suc k + i = omega arith in n) ∙ stand_at hs (suc k) xs i y h.1 e

module _ {B : Type 0} (P : ℕ → B → Type 0) where
  -- what P says of the i-th value
  pub every_at : (k : ℕ) (ys : List B) (i : ℕ) (y : B) → Every P k ys → get_elem? ys i ≡ some y → P (k + i) y
  every_at k [] i y h e = absurd (some-ne-none y (sym e))
  every_at k (x ∷ xs) zero y h e = subst (λ (z : ℕ × B). P z.0 z.1) (λ j. ((let n : k ≡ k + 0 = omega arith in n) j, some-injective x y e j)) h.0
  every_at k (x ∷ xs) (suc i) y h e = subst (λ (z : ℕ). P z y) (let n : suc k + i ≡ k + suc i = omega arith in n) (every_at (suc k) xs i y h.1 e)

  pub every_append : (k : ℕ) (xs ys : List B) → Every P k xs → Every P (k + length xs) ys → Every P k (xs ++ ys)
  every_append k [] ys a b = subst (λ (z : ℕ). Every P z ys) (let n : k + 0 ≡ k = omega arith in n) b
  every_append k (x ∷ xs) ys a b = (a.0, every_append (suc k) xs ys a.1 (subst (λ (z : ℕ). Every P z ys) (let n : k + suc (length xs) ≡ suc k + length xs = omega arith in n) b))

  -- of two parts, each is as P asks at its numbers
  pub every_split : (k : ℕ) (xs ys : List B) → Every P k (xs ++ ys) → Every P k xs × Every P (k + length xs) ys
  every_split k [] ys a = (tt, subst (λ (z : ℕ). Every P z ys) (let n : k ≡ k + 0 = omega arith in n) a)
  every_split k (x ∷ xs) ys a =
      let r = every_split (suc k) xs ys a.1 in ((a.0, r.0), subst (λ (z : ℕ). Every P z ys) (let n : suc k + length xs ≡ k + suc (length xs) = omega arith in n) r.1)

  -- a weaker P
  pub every_weaker : (Q : ℕ → B → Type 0) (k : ℕ) (ys : List B) → ((j : ℕ) (y : B) → k ≤ j → j < k + length ys → P j y → Q j y) → Every P k ys → Every Q k ys
  every_weaker Q k [] f h = tt
  every_weaker Q k (y ∷ ys) f h = (f k y (omega arith) (omega arith) h.0, every_weaker Q (suc k) ys (λ j z low high p. f j z (omega arith) (omega arith) p) h.1)
