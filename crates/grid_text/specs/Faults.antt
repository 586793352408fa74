-- What is wrong with a text: its faults in the order in which they are tried. The first is the answer.
use Rattle.std.specs.Prelude.{ℕ, ◌*◌, ◌==◌, Bool, ◌||◌, not, nat_lt, if◌then◌else◌, ℤ, pos, unsigned_abs, List, [], ◌∷◌}
use Rattle.std.specs.Prelude.{◌++◌, length, map, unwrap_or, Result, Ok, Err}
use Rattle.std.specs.List.{enumerate_from, flat_map}
use Rattle.stencil_def.specs.declared.limits.TheConstants.{MAX_CELLS, MAX_SIDE, MAX_VALUE, MAX_WEIGHT}
use Rattle.grid_text.specs.declared.fault.TextFault.{TextFault}
use Rattle.grid_text.specs.declared.fault.TextFault.TheVariants as fault
use Rattle.grid_text.specs.declared.number.NumberFault.{NumberFault}
use Rattle.grid_text.specs.declared.number.NumberFault.TheVariants as number
use Rattle.grid_text.specs.declared.rows.TextKind.{TextKind}
use Rattle.grid_text.specs.declared.rows.TextKind.TheVariants.{Grid, Weights}
use Rattle.grid_text.specs.Numbers.{bare, signed_of, within}

-- one fault where the test holds, and else none
abbrev pub when : Bool → TextFault → List TextFault
when test fault = if test then fault ∷ [] else []

-- the faults of each item in order, where the first item has the number 1
abbrev pub numbered : {A : Type 0} → (ℕ → A → List TextFault) → List A → List TextFault
numbered faults items = flat_map (λ p. faults p.0 p.1) (enumerate_from 1 items)

-- the first fault, and else the value
abbrev pub answer : {A : Type 0} → List TextFault → A → Result A TextFault
answer [] value = Ok value
answer (first ∷ rest) value = Err first

-- how great the numbers may be
abbrev pub limit_of : TextKind → ℕ
limit_of Grid = unsigned_abs MAX_VALUE
limit_of Weights = unsigned_abs MAX_WEIGHT

-- of a number, where it stands in a row and a column
abbrev pub number_faults : ℕ → ℕ → Result ℤ NumberFault → List TextFault
number_faults row col (Ok z) = []
number_faults row col (Err number.BadForm) = fault.BadNumber row col ∷ []
number_faults row col (Err number.OutOfRange) = fault.OutOfRange row col ∷ []

-- of a field: it is a number within the limit, with or without spaces around it
unfoldable pub field_faults : ℕ → ℕ → ℕ → List ℕ → List TextFault
field_faults limit row col field = number_faults row col (within limit (signed_of (bare field)))

-- a grid of c columns has too many columns, rows or cells with this row
abbrev pub is_too_large : ℕ → ℕ → Bool
is_too_large c row = nat_lt MAX_SIDE c || nat_lt MAX_SIDE row || nat_lt MAX_CELLS (row * c)

-- weights have 3 or 5 rows, with as many fields in each
abbrev pub is_bad_weights : ℕ → ℕ → ℕ → Bool
is_bad_weights c row count = not (c == 3 || c == 5) || nat_lt c row || not (count == c)

-- of a row of so many fields, where row 1 has c
abbrev pub shape_faults : TextKind → ℕ → ℕ → ℕ → List TextFault
shape_faults Grid c row count =
    when (is_too_large c row) (fault.TooLarge row) ++ when (not (count == c)) (fault.Ragged row)
shape_faults Weights c row count = when (is_bad_weights c row count) (fault.BadWeights row)

-- of a row: first its shape, and then its fields from left to right
unfoldable pub row_faults : TextKind → ℕ → ℕ → List (List ℕ) → List TextFault
row_faults kind c row fields =
    shape_faults kind c row (length fields) ++ numbered (field_faults (limit_of kind) row) fields

-- how many fields row 1 has
abbrev pub width : List (List (List ℕ)) → ℕ
width [] = 0
width (first ∷ rest) = length first

-- of all rows in order
unfoldable pub rows_faults : TextKind → List (List (List ℕ)) → List TextFault
rows_faults kind rows = numbered (row_faults kind (width rows)) rows

-- the number in a field
unfoldable pub value_of : List ℕ → ℤ
value_of field = unwrap_or (signed_of (bare field)) (pos 0)

-- the numbers in all fields, row by row
unfoldable pub values_of : List (List (List ℕ)) → List ℤ
values_of rows = flat_map (λ fields. map value_of fields) rows
