-- The six numbers of a partitioned pair (MPI 4.0, 4.2), and the limits that they keep.
use Rattle.std.specs.Prelude.{◌≡◌, ℕ, ◌*◌, ◌≤◌}
use Rattle.part_geometry.specs.declared.TheConstants.{MAX_PARTS, MAX_PART_BYTES, MAX_TOTAL, MAX_GRAIN, MAX_DEPTH}

-- how many partitions each side has and how many bytes one of its partitions has, the least bytes of a
-- piece, and how many rounds may be in flight
pub record Shape : Type 0 where
  pub send_parts : ℕ
  pub send_bytes : ℕ
  pub recv_parts : ℕ
  pub recv_bytes : ℕ
  pub grain : ℕ
  pub depth : ℕ

-- the bytes of the message, as each side cuts it
abbrev pub send_total : Shape → ℕ
send_total g = g.send_parts * g.send_bytes

abbrev pub recv_total : Shape → ℕ
recv_total g = g.recv_parts * g.recv_bytes

-- low ≤ n ≤ high
abbrev pub IsWithin : ℕ → ℕ → ℕ → Type 0
IsWithin low high n = (low ≤ n) × (n ≤ high)

-- the limits of a pair: both sides cut one message
pub record IsShape (g : Shape) : Type 0 where
  pub send_parts : IsWithin 1 MAX_PARTS g.send_parts
  pub recv_parts : IsWithin 1 MAX_PARTS g.recv_parts
  pub send_bytes : IsWithin 1 MAX_PART_BYTES g.send_bytes
  pub recv_bytes : IsWithin 1 MAX_PART_BYTES g.recv_bytes
  pub length : send_total g ≤ MAX_TOTAL
  pub same : send_total g ≡ recv_total g
  pub grain : IsWithin 1 MAX_GRAIN g.grain
  pub depth : IsWithin 1 MAX_DEPTH g.depth
