-- What each call answers by the record, and the record after it.
use Rattle.std.specs.Prelude.{ℕ, ◌+◌, ◌-◌, Bool, true, false, ◌&&◌, ◌==◌, not, nat_lt, if◌then◌else◌, Result, Ok, Err, is_ok, List, [], ◌∷◌, ◌++◌, length, slice_set, Option, find}
use Rattle.std.specs.List.{range_with_len}
use Rattle.std.specs.Option.{option_map_or}
use Rattle.std.specs.FinMap as rounds
use Rattle.std.specs.FinSet as parts
use Rattle.part_geometry.specs.declared.TheConstants.{LAST_ROUND}
use Rattle.part_geometry.specs.declared.answers.Marked.{Marked}
use Rattle.part_geometry.specs.declared.answers.RecvTest.{RecvTest}
use Rattle.part_geometry.specs.declared.answers.RecvTest.TheVariants as recv
use Rattle.part_geometry.specs.declared.answers.StartFault.{StartFault}
use Rattle.part_geometry.specs.declared.answers.StartFault.TheVariants.{AlreadyActive, RoundsSpent}
use Rattle.part_geometry.specs.Shape.{Shape}
use Rattle.plain_pair.specs.declared.answers.PlainLook.{PlainLook}
use Rattle.plain_pair.specs.declared.answers.PlainLook.TheVariants as look
use Rattle.plain_pair.specs.declared.answers.PlainRefusal.{PlainRefusal}
use Rattle.plain_pair.specs.declared.answers.PlainRefusal.TheVariants.{BadPartition, BadLength, NotActive, AlreadyMarked}
use Rattle.plain_pair.specs.declared.answers.PlainSendTest.{PlainSendTest}
use Rattle.plain_pair.specs.declared.answers.PlainSendTest.TheVariants as send
use Rattle.plain_pair.specs.declared.answers.PlainTake.{PlainTake}
use Rattle.plain_pair.specs.declared.answers.PlainTake.TheVariants as take
use Rattle.plain_pair.specs.Taken.{Taken}
use Rattle.plain_pair.specs.Record.{Record, send_round, round_of, is_marked, no_marks, no_parts, missing_piece, pieces_out, bytes_of}

-- a side may start its next round, unless it is active in this one or this is the last
abbrev pub start_answer : Bool → ℕ → Result ℕ StartFault
start_answer active k =
    if active then Err (AlreadyActive k) else (if k == LAST_ROUND then Err RoundsSpent else Ok (k + 1))

-- the record after a move, where the answer is Ok, and else the record as it is
abbrev pub on_ok : {A E : Type 0} → Result A E → Record → Record → Record
on_ok answer next r = if is_ok answer then next else r

-- starting the send begins an empty round
abbrev pub start_send_answer : Record → Result ℕ StartFault
start_send_answer r = start_answer r.sending (send_round r)

abbrev pub started_send : Record → Record
started_send r = record r { rounds = r.rounds ++ no_marks ∷ []; sending = true }

abbrev pub after_start_send : Record → Record
after_start_send r = on_ok (start_send_answer r) (started_send r) r

-- starting the receive begins a round of which nothing is taken
abbrev pub start_recv_answer : Record → Result ℕ StartFault
start_recv_answer r = start_answer r.receiving r.received

abbrev pub started_recv : Record → Record
started_recv r = record r { received = r.received + 1; receiving = true; taken = no_parts; back = no_parts }

abbrev pub after_start_recv : Record → Record
after_start_recv r = on_ok (start_recv_answer r) (started_recv r) r

-- a mark puts a partition with its bytes into the last round
abbrev pub marked : Record → ℕ → List ℕ → Record
marked r p bytes =
    record r { rounds = slice_set r.rounds (send_round r - 1) (rounds.insert (round_of r (send_round r)) p bytes) }

-- what a take of partition q gives
abbrev pub taken_of : Shape → Record → ℕ → Taken
taken_of g r q = record { round = r.received; partition = q; bytes = bytes_of g (round_of r r.received) q }

-- a take, and a return
abbrev pub took : Record → ℕ → Record
took r q = record r { taken = parts.insert r.taken q }

abbrev pub gave_back : Record → ℕ → Record
gave_back r q = record r { back = parts.insert r.back q }

-- a mark is refused by the first of these causes, and else tells how many pieces it sent out
abbrev pub pready_answer : Shape → Record → ℕ → ℕ → List ℕ → Result Marked PlainRefusal
pready_answer g r k p bytes =
    if not (nat_lt p g.send_parts) then Err BadPartition else (
    if not (length bytes == g.send_bytes) then Err BadLength else (
    if not (r.sending && (k == send_round r)) then Err NotActive else (
    if is_marked (round_of r k) p then Err AlreadyMarked else
    Ok record { round = k; partition = p; sent = pieces_out g (marked r p bytes) - pieces_out g r })))

abbrev pub after_pready : Shape → Record → ℕ → ℕ → List ℕ → Record
after_pready g r k p bytes = on_ok (pready_answer g r k p bytes) (marked r p bytes) r

-- whether a receive partition has arrived in the receiver's round
abbrev pub parrived_answer : Shape → Record → ℕ → PlainLook
parrived_answer g r q =
    if not r.receiving then look.Idle else (
    if not (nat_lt q g.recv_parts) then look.BadPartition else
    option_map_or look.NotYet (missing_piece g (round_of r r.received) q) look.Arrived)

-- a take is refused by the first of these causes, and else gives the bytes that were marked in the round
abbrev pub take_answer : Shape → Record → ℕ → Result Taken PlainTake
take_answer g r q =
    if not r.receiving then Err take.Idle else (
    if not (nat_lt q g.recv_parts) then Err take.BadPartition else (
    if parts.contains r.taken q then Err (take.AlreadyTaken r.received) else
    option_map_or (λ i. Err (take.NotYet i)) (missing_piece g (round_of r r.received) q) (Ok (taken_of g r q))))

abbrev pub after_take : Shape → Record → ℕ → Record
after_take g r q = on_ok (take_answer g r q) (took r q) r

-- the least of n partitions that isn't among those of a test
abbrev pub least_without : ℕ → (ℕ → Bool) → Option ℕ
least_without n among = find (λ x. not (among x)) (range_with_len 0 n)

-- a test of the send: the least partition that isn't marked, and then whether the next round has room
abbrev pub test_send_answer : Shape → Record → PlainSendTest
test_send_answer g r =
    if not r.sending then send.Idle else
    option_map_or send.Unmarked (least_without g.send_parts (is_marked (round_of r (send_round r))))
    (if nat_lt (send_round r) (r.released + g.depth) then send.Done else send.Unreleased r.released)

abbrev pub sent_done : PlainSendTest → Record → Record
sent_done send.Done r = record r { sending = false }
sent_done _ r = r

abbrev pub after_test_send : Shape → Record → Record
after_test_send g r = sent_done (test_send_answer g r) r

-- a test of the receive: the least partition that isn't taken, and then the least that isn't given back
abbrev pub test_recv_answer : Shape → Record → RecvTest
test_recv_answer g r =
    if not r.receiving then recv.Idle else
    option_map_or recv.Untaken (least_without g.recv_parts (parts.contains r.taken))
    (option_map_or recv.Out (least_without g.recv_parts (parts.contains r.back)) recv.Done)

abbrev pub received_done : RecvTest → Record → Record
received_done recv.Done r = record r { released = r.received; receiving = false }
received_done _ r = r

abbrev pub after_test_recv : Shape → Record → Record
after_test_recv g r = received_done (test_recv_answer g r) r
