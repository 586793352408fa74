-- Some cells of a pair, and slots of which those become one thing.
use Rattle.std.specs.Prelude.{◌≡◌, ℕ, ◌+◌, ◌*◌, ◌<◌, ◌≤◌, Bool, true, ◌==◌, ◌&&◌, List, length, slice_index_or}
use Rattle.part_geometry.specs.declared.walk.Cell.{Cell}
use Rattle.part_geometry.specs.Shape.{Shape}
use Rattle.part_geometry.specs.Cells.{cells, send_of, recv_of}
use Rattle.part_geometry.specs.Pieces.{piece_of}
use Rattle.pair_core.specs.declared.seat.Spot.{Spot}
use Rattle.pair_core.specs.declared.seat.Spot.TheVariants.{Filled}
use Rattle.pair_core.specs.declared.seat.Pick.{Pick}
use Rattle.pair_core.specs.declared.seat.Pick.TheVariants.{Sent, Laid, Received}

-- whether a cell is one of them
abbrev pub picked : Shape → Pick → ℕ → Bool
picked g (Sent p) c = send_of g c == p
picked g (Laid p i) c = (send_of g c == p) && (piece_of g c == i)
picked g (Received q) c = recv_of g c == q

abbrev pub picked_cell : Pick → Cell → Bool
picked_cell (Sent p) cell = cell.send == p
picked_cell (Laid p i) cell = (cell.send == p) && (cell.piece == i)
picked_cell (Received q) cell = cell.recv == q

-- the slots of those cells at a place became x, of the first n cells of the pair, and no other slot changed
pub record IsFilledTo (g : Shape) (n place : ℕ) (pick : Pick) (x : Spot) (old new : List Spot) : Type 0 where
  pub size : length new ≡ length old
  pub here : (c : ℕ) → c < n → picked g pick c ≡ true → slice_index_or new (place * cells g + c) (Filled 0) ≡ x
  pub elsewhere : (d c : ℕ) → d < g.depth → c < cells g → (d ≡ place → picked g pick c ≡ true → n ≤ c)
      → slice_index_or new (d * cells g + c) (Filled 0) ≡ slice_index_or old (d * cells g + c) (Filled 0)

abbrev pub IsFilled : Shape → ℕ → Pick → Spot → List Spot → List Spot → Type 0
IsFilled g place pick x old new = IsFilledTo g (cells g) place pick x old new
