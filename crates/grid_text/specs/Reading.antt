-- What a text reads as: a grid or weights, or the first fault.
use Rattle.std.specs.Prelude.{ℕ, ◌+◌, ◌==◌, nat_lt, List, ◌++◌, length, Result}
use Rattle.stencil_def.specs.Plane.{Plane, plane_of}
use Rattle.stencil_def.specs.Square.{Square, square_of}
use Rattle.grid_text.specs.declared.fault.TextFault.{TextFault}
use Rattle.grid_text.specs.declared.fault.TextFault.TheVariants as fault
use Rattle.grid_text.specs.declared.rows.TextKind.{TextKind}
use Rattle.grid_text.specs.declared.rows.TextKind.TheVariants.{Grid, Weights}
use Rattle.grid_text.specs.Faults.{when, answer, rows_faults, values_of, width}
use Rattle.grid_text.specs.Records.{records_of}

-- of no row at all, and then of the rows
abbrev pub text_faults : TextKind → List (List (List ℕ)) → List TextFault
text_faults kind rows = when (length rows == 0) fault.Empty ++ rows_faults kind rows

-- weights have as many rows as fields in each: the row behind the last is missing
abbrev pub missing_faults : List (List (List ℕ)) → List TextFault
missing_faults rows = when (nat_lt (length rows) (width rows)) (fault.BadWeights (length rows + 1))

-- the grid of these rows
abbrev pub grid_of_rows : List (List (List ℕ)) → Result Plane TextFault
grid_of_rows rows = answer (text_faults Grid rows) (plane_of (length rows) (width rows) (values_of rows))

-- the weights of these rows
abbrev pub weights_of_rows : List (List (List ℕ)) → Result Square TextFault
weights_of_rows rows = answer (text_faults Weights rows ++ missing_faults rows) (square_of (values_of rows))

-- what a text reads as
unfoldable pub grid_of : List ℕ → Result Plane TextFault
grid_of text = grid_of_rows (records_of text)

unfoldable pub weights_of : List ℕ → Result Square TextFault
weights_of text = weights_of_rows (records_of text)
