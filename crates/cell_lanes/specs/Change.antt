-- By how much a step changes a grid, and after which step a run ends that goes on only while cells change.
use Rattle.std.specs.Prelude.{ℕ, zero, suc, ◌+◌, ◌-◌, ◌<◌, ◌≤◌, max, ℤ, pos, ◌-ℤ◌, ◌≤ℤ◌, ◌<ℤ◌, unsigned_abs}
use Rattle.std.specs.Prelude.{List, length, slice_index_or}
use Rattle.stencil_def.specs.Plane.{Plane, cell}
use Rattle.stencil_def.specs.declared.rule.Rule.{Rule}
use Rattle.stencil_def.specs.Step.{fold_plane}
use Rattle.cell_lanes.specs.declared.change.TheConstants.{MAX_CHANGE}

-- the greatest of f 0 to f (n - 1), and 0 where n is 0
unfoldable pub greatest_below : ℕ → (ℕ → ℕ) → ℕ
greatest_below zero f = 0
greatest_below (suc n) f = max (greatest_below n f) (f n)

-- by how much a cell differs between two grids
abbrev pub difference : Plane → Plane → ℕ → ℕ → ℕ
difference old new row col = unsigned_abs (cell new row col -ℤ cell old row col)

-- the greatest difference of a cell in this row, among so many columns from `left` on
abbrev pub row_change : Plane → Plane → ℕ → ℕ → ℕ → ℕ
row_change old new left cols row = greatest_below cols (λ col. difference old new row (left + col))

-- the greatest difference of a cell among so many rows from `top` on, and so many columns from `left` on
abbrev pub change_within : Plane → Plane → ℕ → ℕ → ℕ → ℕ → ℕ
change_within old new top rows left cols = greatest_below rows (λ row. row_change old new left cols (top + row))

-- the greatest difference of a cell between two grids of one size
abbrev pub change : Plane → Plane → ℕ
change old new = change_within old new 0 old.rows 0 old.cols

-- the greatest difference of two lists of one length, place by place
abbrev pub list_change : List ℤ → List ℤ → ℕ
list_change old new =
    greatest_below (length old) (λ k. unsigned_abs (slice_index_or new k (pos 0) -ℤ slice_index_or old k (pos 0)))

-- the change of step n, which is from 1 on
abbrev pub step_change : Plane → Rule → ℕ → ℕ
step_change g rule n = change (fold_plane g rule (n - 1)) (fold_plane g rule n)

-- After n steps a run ends that is to end after the first step, from 1 on, that changes no cell by more than `until`,
-- and after so many steps at last.
pub record IsStop (g : Plane) (rule : Rule) (steps : ℕ) (until : ℤ) (n : ℕ) : Type 0 where
  pub most : n ≤ steps
  pub before : (k : ℕ) → 1 ≤ k → k < n → until <ℤ pos (step_change g rule k)
  pub early : n < steps → (1 ≤ n) × (pos (step_change g rule n) ≤ℤ until)

-- a change of values that are in range: from 0 to 2 * 10^12
abbrev pub IsChange : ℤ → Type 0
IsChange z = (pos 0 ≤ℤ z) × (z ≤ℤ MAX_CHANGE)
