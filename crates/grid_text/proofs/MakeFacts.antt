-- One more cell of the generator: the values so far are the cells of the first numbers, and each number is made of the
-- one before it.
use Rattle.std.proofs.Common.{◌≡◌, ℕ, ◌+◌, ◌*◌, ℤ, List, [], ◌∷◌, ◌++◌, map, refl, sym, ap, ◌∙◌, arith, add-one}
use Rattle.std.specs.List.{All, range_with_len}
use Rattle.std.proofs.lemmas.List.Elements.{All-append, All-cons, All-nil}
use Rattle.std.proofs.lemmas.List.FromFn.{map-range_with_len_more}
use Rattle.stencil_def.specs.Limits.{IsValue}
use Rattle.stencil_def.specs.Plane.{plane_of}
use Rattle.grid_text.specs.Making.{cell_at, cell_of, made_grid, number_after, number_at}

-- number 0 is the seed
pub number-none : (seed : ℕ) → seed ≡ number_at seed 0
unfolding number_at
number-none seed = refl

-- number n + 1 is the one behind number n
pub number-more : (seed n : ℕ) → number_at seed (n + 1) ≡ number_after (number_at seed n)
unfolding number_at
number-more seed n = rw add-one refl

-- the cell of the next number, pushed behind the first n cells, makes the first n + 1
pub cells-more : (seed n x : ℕ) (z : ℤ) (old new : List ℤ) → old ≡ map (cell_at seed) (range_with_len 0 n) → x ≡ number_after (number_at seed n)
    → z ≡ cell_of x → new ≡ old ++ z ∷ [] → new ≡ map (cell_at seed) (range_with_len 0 (n + 1))
cells-more seed n x z old new a b c e =
    let cell : z ≡ cell_at seed n = c ∙ ap cell_of (b ∙ sym (number-more seed n)) in
    e ∙ (rw (a, cell) refl ∙ sym (map-range_with_len_more (cell_at seed) 0 n n (omega arith)))

-- values in range, with one more in range pushed behind them, are in range
pub limits-more : (z : ℤ) (old new : List ℤ) → All IsValue old → IsValue z → new ≡ old ++ z ∷ [] → All IsValue new
limits-more z old new a b e = rw e (All-append IsValue old (z ∷ []) a (All-cons IsValue z [] b (All-nil IsValue)))

-- rows times columns cells make the grid of that size
pub cells-all : (seed rows cols n : ℕ) (values : List ℤ) → values ≡ map (cell_at seed) (range_with_len 0 n) → n ≡ rows * cols
    → plane_of rows cols values ≡ made_grid seed rows cols
unfolding made_grid
cells-all seed rows cols n values a e = rw (a, e) refl
