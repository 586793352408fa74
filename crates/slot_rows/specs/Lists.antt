-- Lists of slots, each a slot's number with its value, as a seat holds them.
use Rattle.std.specs.Prelude.{ℕ, suc, List, [], ◌∷◌, ◌++◌, take, drop, length, ◌+◌}

-- the slots from the k-th on, with these values
abbrev pub row : {S : Type 0} → ℕ → List S → List (ℕ × S)
row k [] = []
row k (y ∷ ys) = (k, y) ∷ row (suc k) ys

-- the first n go behind the others
abbrev pub rotated : {X : Type 0} → ℕ → List X → List X
rotated n l = drop n l ++ take n l

-- a row of slots put in at the place p of a list
abbrev pub spliced : {S : Type 0} → ℕ → ℕ → List S → List (ℕ × S) → List (ℕ × S)
spliced p k ys l = take p l ++ (row k ys ++ drop p l)

-- a row of slots in the place of what stood at p and after it
abbrev pub overlaid : {S : Type 0} → ℕ → ℕ → List S → List (ℕ × S) → List (ℕ × S)
overlaid p k ys l = take p l ++ (row k ys ++ drop (p + length ys) l)

-- each value is as P asks at its number, from k on
abbrev pub Every : {B : Type 0} → (ℕ → B → Type 0) → ℕ → List B → Type 0
Every P k [] = Unit {0}
Every P k (y ∷ ys) = P k y × Every P (suc k) ys
