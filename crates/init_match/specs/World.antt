-- A world of ranks: its accepted initialisations, and what it answers to one more.
use Rattle.std.specs.Prelude.{ℕ, ◌+◌, ◌==◌, ◌&&◌, Bool, not, nat_lt, nat_le, if◌then◌else◌, Option, Some, None, Result, Ok, Err, List, [], ◌∷◌, ◌++◌, length, map, option_map, sum_by}
use Rattle.std.specs.Option.{option_map_or}
use Rattle.part_geometry.specs.Shape.{Shape}
use Rattle.part_geometry.specs.declared.TheConstants.{MAX_PARTS, MAX_PART_BYTES, MAX_TOTAL, MAX_GRAIN, MAX_DEPTH, MAX_RANKS}
use Rattle.init_match.specs.declared.TheConstants.{MAX_TAG, MAX_COMM, MAX_VOLUME}
use Rattle.init_match.specs.declared.answers.InitFault.{InitFault}
use Rattle.init_match.specs.declared.answers.InitFault.TheVariants.{BadRank, BadTag, BadComm, BadParts, BadBytes, TooLong, SizeMismatch, WorldFull}
use Rattle.init_match.specs.declared.answers.WorldFault.{WorldFault}
use Rattle.init_match.specs.declared.answers.WorldFault.TheVariants as fault
use Rattle.init_match.specs.declared.answers.Matched.{Matched}
use Rattle.part_geometry.specs.declared.answers.Side.{Side}
use Rattle.part_geometry.specs.declared.answers.Side.TheVariants.{SendSide, RecvSide}
use Rattle.init_match.specs.declared.keys.Call.{Call}
use Rattle.init_match.specs.Calls.{total}
use Rattle.init_match.specs.Matching.{Pair, completed_by, pairs_of}

-- how many ranks there are, the grain and depth of each pair, and the accepted calls in order
pub record WorldState : Type 0 where
  pub ranks : ℕ
  pub grain : ℕ
  pub depth : ℕ
  pub calls : List Call

-- low ≤ n ≤ high
abbrev pub is_within : ℕ → ℕ → ℕ → Bool
is_within low high n = nat_le low n && nat_le n high

-- a new world
abbrev pub new_world : ℕ → ℕ → ℕ → Result WorldState WorldFault
new_world ranks grain depth =
    if not (is_within 1 MAX_RANKS ranks) then Err fault.BadRanks else (
    if not (is_within 1 MAX_GRAIN grain) then Err fault.BadGrain else (
    if not (is_within 1 MAX_DEPTH depth) then Err fault.BadDepth else
    Ok record { ranks = ranks; grain = grain; depth = depth; calls = [] }))

-- an initialisation by its arguments
abbrev pub call_of : Side → ℕ → ℕ → ℕ → ℕ → ℕ → ℕ → Call
call_of side from to tag comm parts bytes = record {
  side = side;
  key = record { comm = comm; from = from; to = to; tag = tag };
  parts = parts;
  bytes = bytes;
}

-- an initialisation of a send, and of a receive
abbrev pub send_call : ℕ → ℕ → ℕ → ℕ → ℕ → ℕ → Call
send_call from to tag comm parts bytes = call_of SendSide from to tag comm parts bytes

abbrev pub recv_call : ℕ → ℕ → ℕ → ℕ → ℕ → ℕ → Call
recv_call from to tag comm parts bytes = call_of RecvSide from to tag comm parts bytes

-- the first fault in its numbers
abbrev pub number_fault : ℕ → Call → Option InitFault
number_fault ranks c =
    if not (nat_lt c.key.from ranks && nat_lt c.key.to ranks) then Some BadRank else (
    if not (nat_le c.key.tag MAX_TAG) then Some BadTag else (
    if not (nat_le c.key.comm MAX_COMM) then Some BadComm else (
    if not (is_within 1 MAX_PARTS c.parts) then Some BadParts else (
    if not (is_within 1 MAX_PART_BYTES c.bytes) then Some BadBytes else (
    if not (nat_le (total c) MAX_TOTAL) then Some TooLong else None)))))

abbrev pub number_answer : ℕ → Call → Result (Unit {0}) InitFault
number_answer ranks c = option_map_or Err (number_fault ranks c) (Ok tt)

-- both sides of a pair have the same number of bytes in all
abbrev pub size_fault : Option Pair → Option InitFault
size_fault None = None
size_fault (Some p) =
    if total p.send.1 == total p.recv.1 then None
    else Some (SizeMismatch (total p.send.1) (total p.recv.1))

-- the pairs with their geometries
abbrev pub shape_of : ℕ → ℕ → Call → Call → Shape
shape_of grain depth send recv = record {
  send_parts = send.parts;
  send_bytes = send.bytes;
  recv_parts = recv.parts;
  recv_bytes = recv.bytes;
  grain = grain;
  depth = depth;
}

abbrev pub matched_as : ℕ → ℕ → Pair → Matched
matched_as grain depth p =
    record { send_slot = p.send.0; recv_slot = p.recv.0; geometry = shape_of grain depth p.send.1 p.recv.1 }

abbrev pub matched_pairs : WorldState → List Matched
matched_pairs w = map (matched_as w.grain w.depth) (pairs_of w.calls)

-- the pair that a call completes, unless the sizes differ
abbrev pub completed_answer : WorldState → Call → Result (Option Matched) InitFault
completed_answer w c =
    option_map_or Err (size_fault (completed_by w.calls c))
    (Ok (option_map (matched_as w.grain w.depth) (completed_by w.calls c)))

-- the bytes of all accepted calls
abbrev pub volume : List Call → ℕ
volume calls = sum_by total calls

-- a call is refused by the first of these faults, and else has the next slot
abbrev pub init_answer : WorldState → Call → Result ℕ InitFault
init_answer w c =
    option_map_or Err (number_fault w.ranks c) (
    option_map_or Err (size_fault (completed_by w.calls c)) (
    if nat_lt MAX_VOLUME (volume w.calls + total c) then Err (WorldFull (volume w.calls + total c))
    else Ok (length w.calls)))

-- an accepted call stands behind those before; a refused one changes nothing
abbrev pub after_init : WorldState → Call → Result ℕ InitFault → WorldState
after_init w c (Ok slot) = record w { calls = w.calls ++ c ∷ [] }
after_init w c (Err _) = w
