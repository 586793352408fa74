-- A part of a grid with a halo: more rows and columns on each side, as many as the weights reach. What it holds is
-- defined by the stencil's reading of the grid, so the halo may lie inside the grid or outside.
use Rattle.std.specs.Prelude.{◌≡◌, ℕ, ◌+◌, ◌*◌, ◌<◌, ◌≤◌, ℤ, pos, ◌-ℤ◌, List, ◌++◌, length, take, drop, slice_index_or}
use Rattle.std.specs.List.{All}
use Rattle.stencil_def.specs.Limits.{IsSide, IsValue, IsWithin}
use Rattle.stencil_def.specs.Plane.{Plane, cell}
use Rattle.stencil_def.specs.declared.rule.Rule.{Rule}
use Rattle.stencil_def.specs.Step.{read}

-- how many rows and columns it has of its own, how many more on each side, and all values row by row
pub record Part : Type 0 where
  pub rows : ℕ
  pub cols : ℕ
  pub reach : ℕ
  pub values : List ℤ

-- how many rows there are with the halo, and how many places each has
abbrev pub height : Part → ℕ
height b = b.rows + 2 * b.reach

abbrev pub width : Part → ℕ
width b = b.cols + 2 * b.reach

-- what stands in row y and column x, both counted from the halo's first
abbrev pub at : Part → ℕ → ℕ → ℤ
at b y x = slice_index_or b.values (y * width b + x) (pos 0)

-- the part has the reading of the grid, in its halo too, where its first own cell is that at row `top` and column
-- `left`
abbrev pub Holds : Plane → Rule → ℕ → ℕ → Part → Type 0
Holds g rule top left b = (y x : ℕ) → y < height b → x < width b
    → at b y x ≡ read g rule (pos (top + y) -ℤ pos b.reach) (pos (left + x) -ℤ pos b.reach)

-- its own cells are those of the grid, and nothing is said of the halo
abbrev pub HoldsOwn : Plane → ℕ → ℕ → Part → Type 0
HoldsOwn g top left b = (row col : ℕ) → row < b.rows → col < b.cols
    → at b (b.reach + row) (b.reach + col) ≡ cell g (top + row) (left + col)

-- its own cells in this row are those of the grid
abbrev pub HoldsOwnRow : Plane → ℕ → ℕ → ℕ → Part → Type 0
HoldsOwnRow g top left row b = (col : ℕ) → col < b.cols
    → at b (b.reach + row) (b.reach + col) ≡ cell g (top + row) (left + col)

-- its first n own rows are those of the grid
abbrev pub HoldsOwnBelow : Plane → ℕ → ℕ → ℕ → Part → Type 0
HoldsOwnBelow g top left n b = (row col : ℕ) → row < n → col < b.cols
    → at b (b.reach + row) (b.reach + col) ≡ cell g (top + row) (left + col)

-- it lies inside the grid, without the halo
pub record IsInside (g : Plane) (top left : ℕ) (b : Part) : Type 0 where
  pub rows_fit : top + b.rows ≤ g.rows
  pub cols_fit : left + b.cols ≤ g.cols

-- the own columns of row y have the reading of the grid, where the part has all columns of the grid
abbrev pub HoldsMiddle : Plane → Rule → ℕ → ℕ → Part → Type 0
HoldsMiddle g rule top y b = (col : ℕ) → col < b.cols
    → at b y (b.reach + col) ≡ read g rule (pos (top + y) -ℤ pos b.reach) (pos col)

-- all of row y has it
abbrev pub HoldsRow : Plane → Rule → ℕ → ℕ → Part → Type 0
HoldsRow g rule top y b = (x : ℕ) → x < width b
    → at b y x ≡ read g rule (pos (top + y) -ℤ pos b.reach) (pos x -ℤ pos b.reach)

-- row y of two parts of one size is the same
abbrev pub SameRow : ℕ → Part → Part → Type 0
SameRow y old new = (x : ℕ) → x < width old → at new y x ≡ at old y x

-- the part with these values in the place of those from row y and column x on
abbrev pub with_cells : ℕ → ℕ → List ℤ → Part → Part
with_cells y x cells b = record b {
  values = take (y * width b + x) b.values ++ (cells ++ drop (y * width b + x + length cells) b.values);
}

-- so many values of row y, from column x on
abbrev pub cells_at : Part → ℕ → ℕ → ℕ → List ℤ
cells_at b y x len = take len (drop (y * width b + x) b.values)

-- the own cells of a row, from the left
abbrev pub own_cells : Part → ℕ → List ℤ
own_cells b row = take b.cols (drop ((b.reach + row) * width b + b.reach) b.values)

-- the limits of a part
pub record IsPart (b : Part) : Type 0 where
  pub rows : IsSide b.rows
  pub cols : IsSide b.cols
  pub reach : IsWithin 1 2 b.reach
  pub length : length b.values ≡ height b * width b
  pub values : All IsValue b.values

-- another part of the same size
pub record SameSize (old new : Part) : Type 0 where
  pub rows : new.rows ≡ old.rows
  pub cols : new.cols ≡ old.cols
  pub reach : new.reach ≡ old.reach

abbrev pub part_of : ℕ → ℕ → ℕ → List ℤ → Part
part_of rows cols reach values = record { rows = rows; cols = cols; reach = reach; values = values }
