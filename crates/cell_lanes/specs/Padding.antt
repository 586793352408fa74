-- A grid with more rows and columns on each side, as many as the weights reach: for private functions.
use Rattle.std.specs.Prelude.{◌≡◌, ℕ, ◌+◌, ◌*◌, ◌<◌, ℤ, pos, ◌-ℤ◌, int_div, List, slice_index_or, Option, Some, None}
use Rattle.stencil_def.specs.declared.rule.Rule.{Rule}
use Rattle.stencil_def.specs.Step.{place, clamped}
use Rattle.cell_lanes.specs.Window.{sum_at}

-- how many rows, or columns, there are with the reach of the weights more at both ends
abbrev pub with_ends : Rule → ℕ → ℕ
with_ends rule n = n + 2 * rule.weights.reach

-- the new value in column x of the row that the window is round
abbrev pub new_at : Rule → List ℤ → ℕ → ℕ → ℤ
new_at rule window width x = clamped (int_div (sum_at rule.weights window width x) rule.div)

-- a value of the row, or the edge where there is no such column
abbrev pub or_edge : ℤ → (ℕ → ℤ) → Option ℕ → ℤ
or_edge edge value (Some col) = value col
or_edge edge value None = edge

-- what stands in column x of a row with ends, where these are the row's values
abbrev pub end_or : Rule → ℕ → (ℕ → ℤ) → ℕ → ℤ
end_or rule cols value x = or_edge rule.edge value (place rule.around cols (pos x -ℤ pos rule.weights.reach))

-- what stands in column x of the grid's own row, behind the rows before it
abbrev pub row_value : Rule → ℕ → List ℤ → ℕ → ℕ → ℤ
row_value rule cols values row x = slice_index_or values ((rule.weights.reach + row) * with_ends rule cols + x) (pos 0)

-- the first n of the own rows stand there, with their ends; `own row col` is what a grid's cell holds
abbrev pub RowsAre : (ℕ → ℕ → ℤ) → Rule → ℕ → List ℤ → ℕ → Type 0
RowsAre own rule cols values n = (row x : ℕ) → row < n → x < with_ends rule cols →
    row_value rule cols values row x ≡ end_or rule cols (own row) x

-- all rows stand there: the own rows with their ends, and the rows before and behind them
abbrev pub IsPadded : (ℕ → ℕ → ℤ) → Rule → ℕ → ℕ → List ℤ → Type 0
IsPadded own rule rows cols values = (y x : ℕ) → y < with_ends rule rows → x < with_ends rule cols →
    slice_index_or values (y * with_ends rule cols + x) (pos 0) ≡
    end_or rule rows (λ row. end_or rule cols (own row) x) y
