-- Weights as contracts see them, and the limits that they keep.
use Rattle.std.specs.Prelude.{◌≡◌, ℕ, ◌+◌, ◌*◌, ◌==◌, if◌then◌else◌, ℤ, pos, List, length, map, slice_index_or}
use Rattle.std.specs.List.{All, range_with_len}
use Rattle.stencil_def.specs.Limits.{IsWithin, IsWeight}

-- how far the weights reach in each direction, and 25 values, of which the first are the weights row by row
pub record Square : Type 0 where
  pub reach : ℕ
  pub values : List ℤ

-- the limits of weights
pub record IsSquare (w : Square) : Type 0 where
  pub reach : IsWithin 1 2 w.reach
  pub length : length w.values ≡ 25
  pub values : All IsWeight w.values

-- how many rows there are, and how many weights each has: 3 or 5
abbrev pub side : Square → ℕ
side w = 2 * w.reach + 1

-- the weight in row a and column b, both from 0
abbrev pub weight : Square → ℕ → ℕ → ℤ
weight w a b = slice_index_or w.values (a * side w + b) (pos 0)

-- the weights whose 9 or 25 values these are, row by row
abbrev pub square_of : List ℤ → Square
square_of xs = record {
  reach = (if length xs == 9 then 1 else 2);
  values = map (λ k. slice_index_or xs k (pos 0)) (range_with_len 0 25);
}
