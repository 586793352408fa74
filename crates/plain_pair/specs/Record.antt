-- What a pair has done so far, by rounds (MPI 4.0, chapter 4).
use Rattle.std.specs.Prelude.{ℕ, ◌+◌, ◌-◌, ◌*◌, ◌/◌, ◌%◌, Bool, false, ◌&&◌, not, Option, List, [], length, map, sum_by, count_by, find, unwrap_or, slice_index, slice_index_or}
use Rattle.std.specs.List.{range_with_len, list_all}
use Rattle.std.specs.Ordering.{nat_cmp}
use Rattle.std.specs.FinMap as rounds
use Rattle.std.specs.FinSet as parts
use Rattle.part_geometry.specs.Shape.{Shape}
use Rattle.part_geometry.specs.Pieces.{pieces, is_over, needed}

-- a round: the send partitions that were marked, each with its bytes
abbrev pub Round : Type 0
Round = rounds.FinMap nat_cmp (List ℕ)

-- a set of receive partitions
abbrev pub Parts : Type 0
Parts = parts.FinSet nat_cmp

-- the rounds that the sender started, numbered from 1; the receiver's round and the released one; which sides
-- are active; and the receive partitions that were taken and given back in the receiver's round
pub record Record : Type 0 where
  pub rounds : List Round
  pub received : ℕ
  pub released : ℕ
  pub sending : Bool
  pub receiving : Bool
  pub taken : Parts
  pub back : Parts

abbrev pub no_marks : Round
no_marks = rounds.empty

abbrev pub no_parts : Parts
no_parts = parts.empty

-- before any call
abbrev pub first_record : Record
first_record = record {
  rounds = [];
  received = 0;
  released = 0;
  sending = false;
  receiving = false;
  taken = no_parts;
  back = no_parts;
}

-- the sender's round
abbrev pub send_round : Record → ℕ
send_round r = length r.rounds

-- round k, for k from 1 to the sender's round
abbrev pub round_of : Record → ℕ → Round
round_of r k = slice_index_or r.rounds (k - 1) no_marks

-- whether a partition was marked
abbrev pub is_marked : Round → ℕ → Bool
is_marked round p = rounds.contains_key round p

-- a piece is out: every send partition that it touches was marked
unfoldable pub is_out : Shape → Round → ℕ → Bool
is_out g round i = list_all (is_marked round) (needed g i)

-- how many pieces of a round are out, and of all rounds
unfoldable pub round_out : Shape → Round → ℕ
round_out g round = count_by (is_out g round) (range_with_len 0 (pieces g))

unfoldable pub pieces_out : Shape → Record → ℕ
pieces_out g r = sum_by (round_out g) r.rounds

-- the least piece over receive partition q that isn't out; none where the partition has arrived
unfoldable pub missing_piece : Shape → Round → ℕ → Option ℕ
missing_piece g round q = find (λ i. is_over g q i && not (is_out g round i)) (range_with_len 0 (pieces g))

-- the byte that was marked at a place of the message
unfoldable pub byte_at : Shape → Round → ℕ → ℕ
byte_at g round x = slice_index (unwrap_or (rounds.get round (x / g.send_bytes)) []) (x % g.send_bytes)

-- the bytes of receive partition q
unfoldable pub bytes_of : Shape → Round → ℕ → List ℕ
bytes_of g round q = map (λ x. byte_at g round (q * g.recv_bytes + x)) (range_with_len 0 g.recv_bytes)
