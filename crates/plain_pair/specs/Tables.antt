-- Where the cells of each partition and piece begin.
use Rattle.std.specs.Prelude.{◌≡◌, true, false, ◌⊎◌, ℕ, ◌+◌, ◌<◌, ◌≤◌, List, length, map, slice_index}
use Rattle.std.specs.List.{range_with_len}
use Rattle.part_geometry.specs.declared.walk.Cell.{Cell}
use Rattle.part_geometry.specs.Shape.{Shape, IsShape}
use Rattle.part_geometry.specs.Cells.{cells, send_of, recv_of}
use Rattle.part_geometry.specs.Pieces.{pieces, piece_of, is_over, first_part, need_count}
use Rattle.part_geometry.specs.Walk.{cell_at}
use Rattle.plain_pair.specs.declared.tables.Row.{Row}
use Rattle.plain_pair.specs.declared.tables.Row.TheVariants.{Send, Recv, Piece}

-- the number of a cell by its send partition, its receive partition or its piece
abbrev pub number : Row → Shape → ℕ → ℕ
number Send g c = send_of g c
number Recv g c = recv_of g c
number Piece g c = piece_of g c

-- how many numbers a row has
abbrev pub count : Row → Shape → ℕ
count Send g = g.send_parts
count Recv g = g.recv_parts
count Piece g = pieces g

-- the cells from `first` on, up to and without `end`, are those of number n
pub record AreCellsOf (row : Row) (g : Shape) (n first end : ℕ) : Type 0 where
  pub some : first < end
  pub inside : end ≤ cells g
  pub numbered : (c : ℕ) → first ≤ c → c < end → number row g c ≡ n
  pub all : (c : ℕ) → c < cells g → number row g c ≡ n → (first ≤ c) × (c < end)

-- the first cells of the numbers of a row, and behind them the number of cells
pub record AreFirsts (row : Row) (g : Shape) (firsts : List ℕ) : Type 0 where
  pub size : length firsts ≡ count row g + 1
  pub each : (n : ℕ) → n < count row g → AreCellsOf row g n (slice_index firsts n) (slice_index firsts (n + 1))

-- the tables of a geometry
pub record AreTables (g : Shape) (all : List Cell) (sends recvs pieces' needs : List ℕ) : Type 0 where
  pub shape : IsShape g
  pub cells_are : all ≡ map (cell_at g) (range_with_len 0 (cells g))
  pub sends_are : AreFirsts Send g sends
  pub recvs_are : AreFirsts Recv g recvs
  pub pieces_are : AreFirsts Piece g pieces'
  pub needs_are : needs ≡ map (need_count g) (range_with_len 0 (pieces g))

-- the same of a cell
abbrev pub number_in : Row → Cell → ℕ
number_in Send cell = cell.send
number_in Recv cell = cell.recv
number_in Piece cell = cell.piece

-- the pieces of the cells of a send partition are those that touch it
pub record ArePiecesOf (g : Shape) (p first end : ℕ) : Type 0 where
  pub some : first < end
  pub inside : end ≤ pieces g
  pub touch : (i : ℕ) → first ≤ i → i < end → (first_part g i ≤ p) × (p < first_part g i + need_count g i)
  pub apart : (i : ℕ) → i < pieces g → (i < first) ⊎ (end ≤ i)
      → (p < first_part g i) ⊎ (first_part g i + need_count g i ≤ p)

-- the pieces over a receive partition are those with a cell of it
pub record ArePiecesOver (g : Shape) (q first end : ℕ) : Type 0 where
  pub some : first < end
  pub inside : end ≤ pieces g
  pub over : (i : ℕ) → first ≤ i → i < end → is_over g q i ≡ true
  pub apart : (i : ℕ) → i < pieces g → (i < first) ⊎ (end ≤ i) → is_over g q i ≡ false
