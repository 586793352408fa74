-- The bytes of a message by place, of its cells and of its partitions.
use Rattle.std.specs.Prelude.{ℕ, ◌+◌, ◌-◌, ◌*◌, ◌/◌, ◌%◌, List, map, slice_index, slice_range}
use Rattle.std.specs.List.{range_with_len}
use Rattle.part_geometry.specs.Shape.{Shape}
use Rattle.part_geometry.specs.Cells.{start, end, send_of}

-- the bytes of the places from one up to and without another, where each place has a byte
abbrev pub bytes_between : (ℕ → ℕ) → ℕ → ℕ → List ℕ
bytes_between at from to = map at (range_with_len from (to - from))

-- the byte of place x of the message in which each send partition p has the bytes `marked p`
abbrev pub byte_at : Shape → (ℕ → List ℕ) → ℕ → ℕ
byte_at g marked x = slice_index (marked (x / g.send_bytes)) (x % g.send_bytes)

-- the bytes of cell c and of receive partition q of that message
abbrev pub cell_bytes : Shape → (ℕ → List ℕ) → ℕ → List ℕ
cell_bytes g marked c = bytes_between (byte_at g marked) (start g c) (end g c)

abbrev pub part_bytes : Shape → (ℕ → List ℕ) → ℕ → List ℕ
part_bytes g marked q = bytes_between (byte_at g marked) (q * g.recv_bytes) ((q + 1) * g.recv_bytes)

-- the bytes of cell c, cut out of the bytes of its send partition
abbrev pub cut : Shape → ℕ → List ℕ → List ℕ
cut g c bytes = slice_range bytes (start g c - send_of g c * g.send_bytes) (end g c - send_of g c * g.send_bytes)
