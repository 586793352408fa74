-- What the tables of a geometry hold: each is a function's values from 0 on, filled with one value after the other.
use Rattle.std.proofs.Common.{◌≡◌, ℕ, ◌+◌, ◌<◌, List, [], ◌∷◌, ◌++◌, length, get_or, map, refl, arith}
use Rattle.std.specs.List.{range_with_len}
use Rattle.std.proofs.lemmas.List.FromFn.{map-range_with_len_more, length-map-range_with_len, get_or-map-range_with_len}

-- a table of a function: one more, how many, and each
pub table_more : {X : Type 0} (f : ℕ → X) (i : ℕ) (x : X) (xs ys : List X) → xs ≡ map f (range_with_len 0 i) → x ≡ f i → ys ≡ xs ++ x ∷ [] → ys ≡ map f (range_with_len 0 (i + 1))
table_more {X} f i x xs ys before is after = rw (after, before, is, map-range_with_len_more f 0 i i (omega arith)) refl

-- this is how many
pub table_len : {X : Type 0} (f : ℕ → X) (n : ℕ) (xs : List X) → xs ≡ map f (range_with_len 0 n) → length xs ≡ n
table_len {X} f n xs is = rw is (length-map-range_with_len f 0 n)

-- and this each
pub table_at : {X : Type 0} (f : ℕ → X) (n c : ℕ) (d : X) (xs : List X) → xs ≡ map f (range_with_len 0 n) → c < n → get_or xs c d ≡ f c
table_at {X} f n c d xs is inside = rw is (get_or-map-range_with_len f 0 n c c d inside (omega arith))
