-- The records that a pair comes to by its calls, and which bytes a take from such a record gives.
use Rattle.std.specs.Prelude.{◌≡◌, ℕ, ◌+◌, ◌*◌, ◌/◌, ◌%◌, ◌<◌, Ok, Some, List, length, fold, slice_index}
use Rattle.std.specs.FinMap as rounds
use Rattle.part_geometry.specs.Shape.{Shape, IsShape}
use Rattle.plain_pair.specs.Taken.{Taken}
use Rattle.plain_pair.specs.Record.{Record, Round, first_record, round_of}
use Rattle.plain_pair.specs.Moves.{after_start_send, after_start_recv, after_pready, take_answer, after_take, gave_back, after_test_send, after_test_recv}
use Rattle.plain_pair.specs.Many.{after_pready_range, after_pready_list}

-- the calls that change a record, each with its numbers and its bytes
pub data Call : Type 0 where
  StartSend : Call
  StartRecv : Call
  Pready : ℕ → ℕ → List ℕ → Call
  PreadyRange : ℕ → ℕ → ℕ → List ℕ → Call
  PreadyList : ℕ → List ℕ → List ℕ → Call
  Take : ℕ → Call
  GiveBack : ℕ → Call
  TestSend : Call
  TestRecv : Call

-- the record after a call
abbrev pub after_call : Shape → Record → Call → Record
after_call g r StartSend = after_start_send r
after_call g r StartRecv = after_start_recv r
after_call g r (Pready k p bytes) = after_pready g r k p bytes
after_call g r (PreadyRange k low high bytes) = after_pready_range g r k low high bytes
after_call g r (PreadyList k parts bytes) = after_pready_list g r k parts bytes
after_call g r (Take q) = after_take g r q
after_call g r (GiveBack q) = gave_back r q
after_call g r TestSend = after_test_send g r
after_call g r TestRecv = after_test_recv g r

-- the record after calls, from the first record on
abbrev pub after_calls : Shape → List Call → Record
after_calls g calls = fold (after_call g) first_record calls

-- a byte is that of a place of the message in the mark of the place's partition, which has a partition's length
pub record IsMarkedByte (g : Shape) (round : Round) (place byte : ℕ) : Type 0 where
  pub bytes : List ℕ
  pub mark : rounds.get round (place / g.send_bytes) ≡ Some bytes
  pub size : length bytes ≡ g.send_bytes
  pub is : byte ≡ slice_index bytes (place % g.send_bytes)

-- whatever calls were made: what a take gives are as many bytes as a receive partition has, each marked in the
-- receiver's round
pub record AreTaken (g : Shape) (r : Record) (q : ℕ) (taken : Taken) : Type 0 where
  pub size : length taken.bytes ≡ g.recv_bytes
  pub marked : (x : ℕ) → x < g.recv_bytes
      → IsMarkedByte g (round_of r r.received) (q * g.recv_bytes + x) (slice_index taken.bytes x)

abbrev pub TakesAreMarked : Type 0
TakesAreMarked =
    (g : Shape) (calls : List Call) (q : ℕ) (taken : Taken) → IsShape g
    → take_answer g (after_calls g calls) q ≡ Ok taken → AreTaken g (after_calls g calls) q taken
