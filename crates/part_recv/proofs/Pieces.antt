-- The pieces over a receive partition are those from the piece of its first cell to that of its last: pieces count up from
-- cell to cell by steps of at most 1, so each piece between has a cell of the partition.
use Rattle.std.proofs.Common.{◌≡◌, ℕ, ◌+◌, ◌-◌, ◌<◌, ◌≤◌, ap, arith}
use Rattle.part_geometry.specs.Shape.{Shape, IsShape}
use Rattle.part_geometry.specs.Cells.{cells}
use Rattle.part_geometry.specs.Pieces.{pieces, piece_of}
use Rattle.part_geometry.proofs.PieceFacts.{piece-ordered}
use Rattle.part_geometry.proofs.Rows.{row-le, row-below, row-hits, piece-row}
use Rattle.part_tables.specs.Parts.{first_received}
use Rattle.part_tables.proofs.Facts.{in_received, first_received-rises, first_received-le, in_piece}
use Rattle.part_recv.specs.Seeing.{first_piece, after_piece, AreThePieces}

-- a piece touches the partition exactly where it is one of them
pub the_pieces : AreThePieces
the_pieces g q i v part inside =
    let row = piece-row g v in
    let first = first_received g q in
    let last = first_received g (q + 1) - 1 in
    let rise = first_received-rises g v q part in
    let few = first_received-le g v (q + 1) in (
      (λ t.
          let o = (piece-ordered g i inside).1 in
          let high = t.2 in
          let cell : t.0 < cells g = omega arith in
          let piece = (in_piece g v i t.0 cell inside).1 (t.1, t.2) in
          let own = (in_received g v q t.0 cell).0 t.3 in
          let s0 = own.0 in let s1 = own.1 in
          let low = row-le (piece_of g) (cells g) (pieces g) row first t.0 s0 cell in
          let up = row-le (piece_of g) (cells g) (pieces g) row t.0 last (omega arith) (omega arith) in
          (omega arith, omega arith)),
      (λ both.
          let e : first + (last - first) ≡ last = omega arith in
          let z : piece_of g (first + (last - first)) ≡ piece_of g last = ap (piece_of g) e in
          let b0 = both.0 in let b1 = both.1 in
          let d = row-hits (piece_of g) (cells g) (pieces g) row first (last - first) i (omega arith) b0 (omega arith) in
          let d1 = d.1 in let d2 = d.2 in
          let piece = (in_piece g v i d.0 (omega arith) inside).0 d.3 in
          (d.0, piece.0, piece.1, (in_received g v q d.0 (omega arith)).1 (omega arith, omega arith))),
    )

-- there are some, and all are pieces of the message
pub some_pieces : (g : Shape) → IsShape g → (q : ℕ) → q < g.recv_parts → (first_piece g q < after_piece g q) × (after_piece g q ≤ pieces g)
some_pieces g v q part =
    let row = piece-row g v in
    let rise = first_received-rises g v q part in
    let few = first_received-le g v (q + 1) in
    let first = first_received g q in let last = first_received g (q + 1) - 1 in
    let low = row-le (piece_of g) (cells g) (pieces g) row first last (omega arith) (omega arith) in
    let high = row-below (piece_of g) (cells g) (pieces g) row last (omega arith) in
    (omega arith, omega arith)
