-- A grid as contracts see it, and the limits that it keeps.
use Rattle.std.specs.Prelude.{◌≡◌, ℕ, ◌+◌, ◌*◌, ◌≤◌, ℤ, pos, List, length, take, drop, replicate, slice_index_or}
use Rattle.std.specs.Prelude.{slice_set}
use Rattle.std.specs.List.{All}
use Rattle.stencil_def.specs.Limits.{IsSide, IsValue}
use Rattle.stencil_def.specs.declared.limits.TheConstants.{MAX_CELLS}

-- how many rows and columns there are, and the values row by row
pub record Plane : Type 0 where
  pub rows : ℕ
  pub cols : ℕ
  pub values : List ℤ

-- the limits of a grid
pub record IsPlane (g : Plane) : Type 0 where
  pub rows : IsSide g.rows
  pub cols : IsSide g.cols
  pub cells : g.rows * g.cols ≤ MAX_CELLS
  pub length : length g.values ≡ g.rows * g.cols
  pub values : All IsValue g.values

-- where the cell at a row and a column stands in the values
abbrev pub index : Plane → ℕ → ℕ → ℕ
index g row col = row * g.cols + col

-- the value of the cell at a row and a column
abbrev pub cell : Plane → ℕ → ℕ → ℤ
cell g row col = slice_index_or g.values (index g row col) (pos 0)

-- the values of a row, from the left
abbrev pub row_of : Plane → ℕ → List ℤ
row_of g row = take g.cols (drop (row * g.cols) g.values)

-- the grid of this size with these values, row by row
abbrev pub plane_of : ℕ → ℕ → List ℤ → Plane
plane_of rows cols values = record { rows = rows; cols = cols; values = values }

-- the grid of this size with 0 in each cell
abbrev pub zero_plane : ℕ → ℕ → Plane
zero_plane rows cols = record { rows = rows; cols = cols; values = replicate (rows * cols) (pos 0) }

-- the same grid with another value in one cell
abbrev pub with_cell : Plane → ℕ → ℕ → ℤ → Plane
with_cell g row col value = record {
  rows = g.rows;
  cols = g.cols;
  values = slice_set g.values (index g row col) value;
}
