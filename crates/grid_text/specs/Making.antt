-- The generator of grids.
use Rattle.std.specs.Prelude.{ℕ, zero, suc, ◌+◌, ◌*◌, ◌/◌, ◌%◌, ℤ, pos, ◌-ℤ◌, map}
use Rattle.std.specs.List.{range_with_len}
use Rattle.stencil_def.specs.Plane.{Plane, plane_of}

-- the number behind x
abbrev pub number_after : ℕ → ℕ
number_after x = (1103515245 * x + 12345) % 2147483648

-- the numbers from a seed on
unfoldable pub number_at : ℕ → ℕ → ℕ
number_at seed zero = seed
number_at seed (suc n) = number_after (number_at seed n)

-- the cell that a number makes, from its high bits
abbrev pub cell_of : ℕ → ℤ
cell_of x = pos (x / 65536 % 19) -ℤ pos 9

-- cell n, counted from 0, is of number n + 1
abbrev pub cell_at : ℕ → ℕ → ℤ
cell_at seed n = cell_of (number_at seed (n + 1))

-- the grid of this size
unfoldable pub made_grid : ℕ → ℕ → ℕ → Plane
made_grid seed rows cols = plane_of rows cols (map (cell_at seed) (range_with_len 0 (rows * cols)))
