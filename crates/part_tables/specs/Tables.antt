-- What the tables of a geometry hold.
use Rattle.std.specs.Prelude.{◌≡◌, ℕ, ◌+◌, List, map}
use Rattle.std.specs.List.{range_with_len}
use Rattle.part_geometry.specs.declared.walk.Cell.{Cell}
use Rattle.part_geometry.specs.Shape.{Shape, IsShape}
use Rattle.part_geometry.specs.Cells.{cells, send_of, recv_of}
use Rattle.part_geometry.specs.Pieces.{pieces, piece_of, first_cell, last_cell, first_part, need}
use Rattle.part_geometry.specs.Walk.{cell_at}
use Rattle.part_tables.specs.declared.tables.Row.{Row}
use Rattle.part_tables.specs.declared.tables.Row.TheVariants.{Send, Recv, Piece}
use Rattle.part_tables.specs.declared.tables.PieceRun.{PieceRun}
use Rattle.part_tables.specs.Parts.{cells_before}

-- the part of a cell in a row: its send partition, its receive partition or its piece
abbrev pub part_in : Row → Cell → ℕ
part_in Send cell = cell.send
part_in Recv cell = cell.recv
part_in Piece cell = cell.piece

-- how many parts a row has
abbrev pub part_count : Row → Shape → ℕ
part_count Send g = g.send_parts
part_count Recv g = g.recv_parts
part_count Piece g = pieces g

-- the same of cell c of a geometry
abbrev pub part_at : Row → Shape → ℕ → ℕ
part_at Send g c = send_of g c
part_at Recv g c = recv_of g c
part_at Piece g c = piece_of g c

-- piece i: its first cell and the one behind its last, its first send partition, and the mask of those it touches
abbrev pub run_at : Shape → ℕ → PieceRun
run_at g i = record { first = first_cell g i; after = last_cell g i + 1; first_part = first_part g i; need = need g i }

-- a table of f has its values at 0 to n - 1
abbrev pub IsTable : {X : Type 0} → (ℕ → X) → ℕ → List X → Type 0
IsTable f n xs = xs ≡ map f (range_with_len 0 n)

-- the cells in order; the first cell of each part of a row, and behind them the number of cells; the pieces in order
abbrev pub AreCells : Shape → List Cell → Type 0
AreCells g all = IsTable (cell_at g) (cells g) all

abbrev pub AreFirsts : Row → Shape → List ℕ → Type 0
AreFirsts row g firsts = IsTable (cells_before (part_at row g) (cells g)) (part_count row g + 1) firsts

abbrev pub AreRuns : Shape → List PieceRun → Type 0
AreRuns g runs = IsTable (run_at g) (pieces g) runs

-- the tables of a geometry
pub record AreTables (g : Shape) (all : List Cell) (sent received : List ℕ) (runs : List PieceRun) : Type 0 where
  pub shape : IsShape g
  pub all_cells : AreCells g all
  pub sent_firsts : AreFirsts Send g sent
  pub received_firsts : AreFirsts Recv g received
  pub all_runs : AreRuns g runs
