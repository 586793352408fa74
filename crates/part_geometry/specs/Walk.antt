-- A walk over the cells of a geometry, from the first to the last.
use Rattle.std.specs.Prelude.{◌≡◌, ℕ, ◌+◌, ◌-◌, ◌*◌, ◌≤◌, nat_lt, if◌then◌else◌, Option, Some, None, drop}
use Rattle.part_geometry.specs.declared.walk.Cell.{Cell}
use Rattle.part_geometry.specs.declared.walk.SidePart.{SidePart}
use Rattle.part_geometry.specs.declared.walk.Position.{Position}
use Rattle.part_geometry.specs.Shape.{Shape, IsShape}
use Rattle.part_geometry.specs.Cells.{cells, start, end, send_of, recv_of}
use Rattle.part_geometry.specs.Pieces.{pieces_of, runs_from, piece_of}

-- the geometry, and how many of its cells were passed
pub record Walked : Type 0 where
  pub shape : Shape
  pub place : ℕ

-- cell c of a geometry
abbrev pub cell_at : Shape → ℕ → Cell
cell_at g c = record {
  start = start g c;
  end = end g c;
  send = send_of g c;
  recv = recv_of g c;
  piece = piece_of g c;
}

-- the next cell, where one is left
abbrev pub next_cell : Walked → Option Cell
next_cell w = if nat_lt w.place (cells w.shape) then Some (cell_at w.shape w.place) else None

-- the walk behind that cell
abbrev pub passed : Walked → Walked
passed w = record { shape = w.shape; place = if nat_lt w.place (cells w.shape) then w.place + 1 else w.place }

-- a side stands at partition `part` of `bytes` bytes
pub record IsSide (part bytes : ℕ) (side : SidePart) : Type 0 where
  pub stands : side.part ≡ part
  pub size : side.bytes ≡ bytes
  pub ends : side.end ≡ (part + 1) * bytes

-- the position is before a cell of the geometry: the run that is open there begins at cell `first`
pub record IsBefore (g : Shape) (p : Position) : Type 0 where
  pub shape : IsShape g
  pub inside : p.place ≤ cells g
  pub starts : p.start ≡ start g p.place
  pub sends : IsSide (send_of g p.place) g.send_bytes p.send
  pub recvs : IsSide (recv_of g p.place) g.recv_bytes p.recv
  pub runs : drop p.piece (pieces_of g) ≡ runs_from g p.first p.place (cells g - p.place)
  pub opened : p.first ≤ p.place
  pub opened_start : p.first_start ≡ start g p.first
  pub opened_send : p.first_send ≡ send_of g p.first
