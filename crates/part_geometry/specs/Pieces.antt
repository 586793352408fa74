-- The pieces of a message: the runs of cells that go out together.
use Rattle.std.specs.Prelude.{◌≡◌, ℕ, zero, suc, ◌+◌, ◌-◌, ◌^◌, ◌<◌, ◌≤◌, Bool, true, false, ◌&&◌, ◌||◌, ◌==◌, nat_lt, nat_le, if◌then◌else◌, List, [], ◌∷◌, length, count_by, slice_index_or, IsTrue, ◌↔◌}
use Rattle.std.specs.List.{range_with_len}
use Rattle.part_geometry.specs.Shape.{Shape, IsShape}
use Rattle.part_geometry.specs.Cells.{cells, start, end, send_of, recv_of}

-- a run of cells: the first and the last
abbrev pub Run : Type 0
Run = ℕ × ℕ

-- how many send partitions the cells from f to c touch
abbrev pub touched : Shape → ℕ → ℕ → ℕ
touched g f c = send_of g c + 1 - send_of g f

-- the run from cell f to cell c is closed: it has `grain` bytes, or touches 32 send partitions, or has the last cell
abbrev pub closes : Shape → ℕ → ℕ → Bool
closes g f c = nat_le g.grain (end g c - start g f) || nat_le 32 (touched g f c) || (c + 1 == cells g)

-- a run that begins at cell f and ends at the first of its cells at which it is closed
pub record IsRun (g : Shape) (f : ℕ) (run : Run) : Type 0 where
  pub first : run.0 ≡ f
  pub ordered : f ≤ run.1
  pub inside : run.1 < cells g
  pub closed : closes g f run.1 ≡ true
  pub open_before : (c : ℕ) → f ≤ c → c < run.1 → closes g f c ≡ false

-- such runs one after another, without gaps, from cell f to the last cell
abbrev pub IsDivisionFrom : Shape → ℕ → List Run → Type 0
IsDivisionFrom g f [] = f ≡ cells g
IsDivisionFrom g f (run ∷ runs) = IsRun g f run × IsDivisionFrom g (run.1 + 1) runs

-- the rule of the pieces: the cells from the first to the last, divided into such runs
abbrev pub IsDivision : Shape → List Run → Type 0
IsDivision g runs = IsDivisionFrom g 0 runs

-- the runs of the n cells from c on, where a run is open from cell f
unfoldable pub runs_from : Shape → ℕ → ℕ → ℕ → List Run
runs_from g f c zero = []
runs_from g f c (suc n) =
    if closes g f c then (f, c) ∷ runs_from g (c + 1) (c + 1) n else runs_from g f (c + 1) n

-- the pieces in order
unfoldable pub pieces_of : Shape → List Run
pieces_of g = runs_from g 0 0 (cells g)

-- the list of pieces is the one division by the rule
pub record IsTheDivision (g : Shape) : Type 0 where
  pub divides : IsDivision g (pieces_of g)
  pub only : (runs : List Run) → IsDivision g runs → runs ≡ pieces_of g

-- how many pieces there are
unfoldable pub pieces : Shape → ℕ
pieces g = length (pieces_of g)

-- the first and the last cell of a piece
unfoldable pub first_cell : Shape → ℕ → ℕ
first_cell g i = (slice_index_or (pieces_of g) i (0, 0)).0

unfoldable pub last_cell : Shape → ℕ → ℕ
last_cell g i = (slice_index_or (pieces_of g) i (0, 0)).1

-- the piece of a cell: as many pieces end before it
unfoldable pub piece_of : Shape → ℕ → ℕ
piece_of g c = count_by (λ run. nat_lt run.1 c) (pieces_of g)

-- a cell lies in a piece
pub record IsPieceOf (g : Shape) (c i : ℕ) : Type 0 where
  pub inside : i < pieces g
  pub low : first_cell g i ≤ c
  pub high : c ≤ last_cell g i

-- a piece and a partition touch where they share a cell
abbrev pub Touches : Shape → ℕ → ℕ → Type 0
Touches g i p = (c : ℕ) × (first_cell g i ≤ c) × (c ≤ last_cell g i) × (send_of g c ≡ p)

abbrev pub TouchesRecv : Shape → ℕ → ℕ → Type 0
TouchesRecv g i q = (c : ℕ) × (first_cell g i ≤ c) × (c ≤ last_cell g i) × (recv_of g c ≡ q)

-- whether a piece and a receive partition touch: the partitions of its first and its last cell are on either side
abbrev pub is_over : Shape → ℕ → ℕ → Bool
is_over g q i = nat_le (recv_of g (first_cell g i)) q && nat_le q (recv_of g (last_cell g i))

-- that a piece is over a receive partition exactly where they touch
abbrev pub AreOver : Type 0
AreOver = (g : Shape) (q i : ℕ) → IsShape g → i < pieces g → IsTrue (is_over g q i) ↔ TouchesRecv g i q

-- the least and the greatest send partition that a piece touches
unfoldable pub first_part : Shape → ℕ → ℕ
first_part g i = send_of g (first_cell g i)

unfoldable pub last_part : Shape → ℕ → ℕ
last_part g i = send_of g (last_cell g i)

-- how many send partitions a piece touches, and which they are
abbrev pub need_count : Shape → ℕ → ℕ
need_count g i = last_part g i + 1 - first_part g i

unfoldable pub needed : Shape → ℕ → List ℕ
needed g i = range_with_len (first_part g i) (need_count g i)

-- the same as a mask: bit b stands for the partition b after the first
unfoldable pub need : Shape → ℕ → ℕ
need g i = 2 ^ need_count g i - 1
