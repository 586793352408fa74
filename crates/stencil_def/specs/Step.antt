-- A step of the stencil: what a cell of the next grid is, and the grid after any number of steps.
use Rattle.std.specs.Prelude.{ℕ, zero, suc, ◌+◌, ◌-◌, ◌*◌, ◌/◌, ◌%◌, nat_lt, if◌then◌else◌, ℤ, pos, negsuc, neg_ℤ, ◌+ℤ◌}
use Rattle.std.specs.Prelude.{◌-ℤ◌, ◌*ℤ◌, int_div, Option, Some, None, map}
use Rattle.std.specs.Int.{int_max, int_min}
use Rattle.std.specs.List.{range_with_len}
use Rattle.stencil_def.specs.declared.limits.TheConstants.{MAX_VALUE}
use Rattle.stencil_def.specs.declared.rule.Around.{Around}
use Rattle.stencil_def.specs.declared.rule.Around.TheVariants.{Fixed, Wrap}
use Rattle.stencil_def.specs.declared.rule.Rule.{Rule}
use Rattle.stencil_def.specs.Plane.{Plane, cell}
use Rattle.stencil_def.specs.Square.{side, weight}

-- which of n rows, or of n columns, stands at a whole number: that number where it is one of them, and
-- round the edge the remainder, which is never negative
abbrev pub place : Around → ℕ → ℤ → Option ℕ
place Fixed n (pos z) = if nat_lt z n then Some z else None
place Fixed n (negsuc z) = None
place Wrap n (pos z) = Some (z % n)
place Wrap n (negsuc z) = Some (n - 1 - z % n)

-- the cell where both places are there, and else the edge
abbrev pub cell_or : Plane → ℤ → Option ℕ → Option ℕ → ℤ
cell_or g edge (Some row) (Some col) = cell g row col
cell_or g edge (Some row) None = edge
cell_or g edge None col = edge

-- what a cell at any row and column holds, also outside the grid
unfoldable pub read : Plane → Rule → ℤ → ℤ → ℤ
read g rule row col = cell_or g rule.edge (place rule.around g.rows row) (place rule.around g.cols col)

-- f 0 + .. + f (n - 1)
unfoldable pub sum_below : ℕ → (ℕ → ℤ) → ℤ
sum_below zero f = pos 0
sum_below (suc n) f = sum_below n f +ℤ f n

-- a weight times the value that it meets where the middle weight stands at a row and a column
abbrev pub weighted : Plane → Rule → ℕ → ℕ → ℕ → ℕ → ℤ
weighted g rule row col a b =
    weight rule.weights a b *ℤ
    read g rule (pos (row + a) -ℤ pos rule.weights.reach) (pos (col + b) -ℤ pos rule.weights.reach)

-- the sum over the window
abbrev pub window_sum : Plane → Rule → ℕ → ℕ → ℤ
window_sum g rule row col =
    sum_below (side rule.weights) (λ a. sum_below (side rule.weights) (λ b. weighted g rule row col a b))

-- the nearest number from -10^12 to 10^12
abbrev pub clamped : ℤ → ℤ
clamped z = int_max (neg_ℤ MAX_VALUE) (int_min z MAX_VALUE)

-- the new value of a cell: the sum over the window, divided with truncation toward zero, and clamped
unfoldable pub new_cell : Plane → Rule → ℕ → ℕ → ℤ
new_cell g rule row col = clamped (int_div (window_sum g rule row col) rule.div)

-- the grid after one step: the new values row by row
unfoldable pub next_plane : Plane → Rule → Plane
next_plane g rule = record {
  rows = g.rows;
  cols = g.cols;
  values = map (λ k. new_cell g rule (k / g.cols) (k % g.cols)) (range_with_len 0 (g.rows * g.cols));
}

-- the grid after a number of steps
unfoldable pub fold_plane : Plane → Rule → ℕ → Plane
fold_plane g rule zero = g
fold_plane g rule (suc n) = next_plane (fold_plane g rule n) rule
