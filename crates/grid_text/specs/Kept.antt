-- The rows that were read, as they are kept: for private functions.
use Rattle.std.specs.Prelude.{◌≡◌, ℕ, ◌<◌, List, [], length}
use Rattle.grid_text.specs.declared.rows.Rows.{Rows}
use Rattle.grid_text.specs.declared.rows.TextKind.{TextKind}
use Rattle.grid_text.specs.Faults.{rows_faults, shape_faults, values_of, width}

-- these rows have no fault, and are kept
pub record AreKept (kind : TextKind) (rows : List (List (List ℕ))) (kept : Rows) : Type 0 where
  pub count : kept.rows ≡ length rows
  pub cols : kept.cols ≡ width rows
  pub values : kept.values.items ≡ values_of rows
  pub faultless : rows_faults kind rows ≡ []
  pub shape : 0 < length rows → shape_faults kind (width rows) (length rows) (width rows) ≡ []
