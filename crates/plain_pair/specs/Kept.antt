-- What a pair of one thread keeps.
use Rattle.std.specs.Prelude.{ℕ, ◌+◌, ◌-◌, ◌*◌, ◌/◌, ◌%◌, Bool, false, ◌&&◌, ◌||◌, ◌==◌, nat_lt, if◌then◌else◌, List, [], count_by, slice_index, slice_index_or}
use Rattle.std.specs.List.{range_with_len, list_all}
use Rattle.part_geometry.specs.Shape.{Shape}
use Rattle.part_geometry.specs.Pieces.{pieces, needed}

-- the rounds of both sides and which are active; which send partitions are marked in the sender's round, and
-- which receive partitions are taken and given back in the receiver's; and a buffer for each receive partition at
-- each place, where the place of round k is k mod depth
pub record Kept : Type 0 where
  pub shape : Shape
  pub sent : ℕ
  pub received : ℕ
  pub released : ℕ
  pub sending : Bool
  pub receiving : Bool
  pub marked : List Bool
  pub taken : List Bool
  pub back : List Bool
  pub buffers : List (List ℕ)

-- whether partition n is among those of a list of tests
abbrev pub has : List Bool → ℕ → Bool
has tests n = slice_index_or tests n false

-- the buffer of receive partition q at the place of round k
abbrev pub buffer_place : Shape → ℕ → ℕ → ℕ
buffer_place g k q = k % g.depth * g.recv_parts + q

abbrev pub buffer_of : Kept → ℕ → ℕ → List ℕ
buffer_of kept k q = slice_index_or kept.buffers (buffer_place kept.shape k q) []

-- whether send partition p is marked in round k: an earlier round than the sender's is whole
abbrev pub kept_mark : Kept → ℕ → ℕ → Bool
kept_mark kept k p = nat_lt k kept.sent || ((k == kept.sent) && has kept.marked p)

-- the byte at place x of the message of round k
abbrev pub kept_byte : Kept → ℕ → ℕ → ℕ
kept_byte kept k x = slice_index (buffer_of kept k (x / kept.shape.recv_bytes)) (x % kept.shape.recv_bytes)

-- whether that place was taken
abbrev pub was_taken : Kept → ℕ → ℕ → Bool
was_taken kept k x = (k == kept.received) && kept.receiving && has kept.taken (x / kept.shape.recv_bytes)

-- whether a piece of the sender's round is out
unfoldable pub is_whole : Shape → List Bool → ℕ → Bool
is_whole g marks i = list_all (has marks) (needed g i)

-- how many pieces are out
unfoldable pub kept_out : Kept → ℕ
kept_out kept = if kept.sent == 0 then 0
    else (kept.sent - 1) * pieces kept.shape
    + count_by (is_whole kept.shape kept.marked) (range_with_len 0 (pieces kept.shape))
