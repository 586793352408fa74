-- The bytes of a send partition in the buffers of the receive partitions.
use Rattle.std.specs.Prelude.{◌≡◌, ◌⊎◌, ℕ, ◌+◌, ◌-◌, ◌*◌, ◌/◌, ◌%◌, ◌<◌, ◌≤◌, List, [], length, slice_index, slice_index_or, slice_set}
use Rattle.std.specs.List.{between}
use Rattle.part_geometry.specs.Shape.{Shape, IsShape, send_total}
use Rattle.part_geometry.specs.Cells.{cells, start, end, recv_of}
use Rattle.plain_pair.specs.Written.{written}

-- the byte at place x of the message, in the buffers from `base` on
abbrev pub byte_in : Shape → List (List ℕ) → ℕ → ℕ → ℕ
byte_in g buffers base x = slice_index (slice_index_or buffers (base + x / g.recv_bytes) []) (x % g.recv_bytes)

-- the new buffers are the old ones, with the bytes at the places of the message from `low` up to `high`
pub record Stores (g : Shape) (base low high : ℕ) (bytes : List ℕ) (old new : List (List ℕ)) : Type 0 where
  pub size : length new ≡ length old
  pub sizes : (j : ℕ) → length (slice_index_or new j []) ≡ length (slice_index_or old j [])
  pub here : (x : ℕ) → low ≤ x → x < high → byte_in g new base x ≡ slice_index bytes (x - low)
  pub elsewhere : (x : ℕ) → x < send_total g → (x < low) ⊎ (high ≤ x) → byte_in g new base x ≡ byte_in g old base x
  pub apart : (j : ℕ) → (j < base) ⊎ (base + g.recv_parts ≤ j) → slice_index_or new j [] ≡ slice_index_or old j []

-- each buffer that the places from `low` up to `high` are in has a partition's bytes
abbrev pub HasRoom : Shape → ℕ → ℕ → ℕ → List (List ℕ) → Type 0
HasRoom g base low high buffers =
    (x : ℕ) → low ≤ x → x < high → length (slice_index_or buffers (base + x / g.recv_bytes) []) ≡ g.recv_bytes

-- a cell can be stored: its bytes are among those given, which begin at place `low`, and its buffer has room
pub record CanStore (g : Shape) (base low c : ℕ) (bytes : List ℕ) (buffers : List (List ℕ)) : Type 0 where
  pub shape : IsShape g
  pub cell : c < cells g
  pub low_le : low ≤ start g c
  pub high_le : end g c ≤ low + length bytes
  pub index : base + recv_of g c < length buffers
  pub room : length (slice_index_or buffers (base + recv_of g c) []) ≡ g.recv_bytes

-- the cell's bytes, and its place in the buffer of its receive partition
abbrev pub cell_piece : Shape → ℕ → ℕ → List ℕ → List ℕ
cell_piece g low c bytes = between (start g c - low) (end g c - low) bytes

abbrev pub cell_offset : Shape → ℕ → ℕ
cell_offset g c = start g c - recv_of g c * g.recv_bytes

-- the buffers with the cell stored
abbrev pub cell_stored : Shape → ℕ → ℕ → ℕ → List ℕ → List (List ℕ) → List (List ℕ)
cell_stored g base low c bytes buffers =
    slice_set buffers (base + recv_of g c)
    (written (slice_index_or buffers (base + recv_of g c) []) (cell_offset g c) (cell_piece g low c bytes))
