-- A window: the rows round one row of a grid, each with the reach of the weights more columns at both sides.
use Rattle.std.specs.Prelude.{ℕ, ◌+◌, ◌*◌, ℤ, pos, ◌*ℤ◌, List, slice_index_or}
use Rattle.stencil_def.specs.Square.{Square, side, weight}
use Rattle.stencil_def.specs.Step.{sum_below}

-- the value in row a of the window and in column x + b, where each row has this width
abbrev pub met : List ℤ → ℕ → ℕ → ℕ → ℕ → ℤ
met window width x a b = slice_index_or window (a * width + (x + b)) (pos 0)

-- the sum over row a of the weights, each times the value that it meets where the first one stands in column x
abbrev pub row_sum_at : Square → List ℤ → ℕ → ℕ → ℕ → ℤ
row_sum_at w window width x a = sum_below (side w) (λ b. weight w a b *ℤ met window width x a b)

-- the sum over all weights, each times the value that it meets
abbrev pub sum_at : Square → List ℤ → ℕ → ℕ → ℤ
sum_at w window width x = sum_below (side w) (λ a. row_sum_at w window width x a)
