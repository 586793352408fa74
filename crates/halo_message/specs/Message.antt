-- A message of values: how many elements it has, and how both sides cut it.
use Rattle.std.specs.Prelude.{ℕ, ◌*◌, ◌/◌, ◌%◌, Bool, ◌&&◌, ◌==◌, Option, IsTrue, find, is_some, unwrap_or}
use Rattle.std.specs.List.{range_with_len}
use Rattle.part_geometry.specs.declared.TheConstants.{MAX_DEPTH, MAX_GRAIN, MAX_PARTS}
use Rattle.part_geometry.specs.Shape.{IsWithin, Shape}
use Rattle.halo_message.specs.declared.TheConstants.{ELEMENT_BYTES, MAX_MULTIPLE, MAX_VALUES}

-- how many values are sent, the partitions of both sides, the least bytes of a piece, and how many rounds may be in
-- flight
pub record Message : Type 0 where
  pub values : ℕ
  pub send_parts : ℕ
  pub recv_parts : ℕ
  pub grain : ℕ
  pub depth : ℕ

-- n is a multiple of both numbers
abbrev pub is_shared : ℕ → ℕ → ℕ → Bool
is_shared send_parts recv_parts n = (n % send_parts == 0) && (n % recv_parts == 0)

-- the first of the 8,192 numbers from one on that is
unfoldable pub first_shared : ℕ → ℕ → ℕ → Option ℕ
first_shared send_parts recv_parts from = find (is_shared send_parts recv_parts) (range_with_len from MAX_MULTIPLE)

-- the least common multiple of both numbers is at most 8,192
abbrev pub shares_few : ℕ → ℕ → Bool
shares_few send_parts recv_parts = is_some (first_shared send_parts recv_parts 1)

-- how many elements a message has: the least number from that of its values on that is a multiple of both numbers of
-- partitions
abbrev pub elements : Message → ℕ
elements m = unwrap_or (first_shared m.send_parts m.recv_parts m.values) 0

-- how both sides cut n elements
abbrev pub cut_as : ℕ → ℕ → ℕ → ℕ → ℕ → Shape
cut_as n send_parts recv_parts grain depth = record {
  send_parts = send_parts;
  send_bytes = n / send_parts * ELEMENT_BYTES;
  recv_parts = recv_parts;
  recv_bytes = n / recv_parts * ELEMENT_BYTES;
  grain = grain;
  depth = depth;
}

-- how both sides cut a message
abbrev pub shape_of : Message → Shape
shape_of m = cut_as (elements m) m.send_parts m.recv_parts m.grain m.depth

-- the limits of a message
pub record IsMessage (m : Message) : Type 0 where
  pub values : IsWithin 1 MAX_VALUES m.values
  pub send_parts : IsWithin 1 MAX_PARTS m.send_parts
  pub recv_parts : IsWithin 1 MAX_PARTS m.recv_parts
  pub multiple : IsTrue (shares_few m.send_parts m.recv_parts)
  pub grain : IsWithin 1 MAX_GRAIN m.grain
  pub depth : IsWithin 1 MAX_DEPTH m.depth
