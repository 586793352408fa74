-- The text of each answer, without the LF behind it.
use Rattle.std.specs.Prelude.{ℕ, ◌+◌, ◌/◌, ◌%◌, Bool, nat_lt, if◌then◌else◌, codes, List, [], ◌∷◌, ◌++◌, Result, Ok, Err}
use Rattle.std.specs.Fmt.{decimal}
use Rattle.part_api.specs.declared.faults.FreeFault.{FreeFault}
use Rattle.part_api.specs.declared.faults.FreeFault.TheVariants as free
use Rattle.part_api.specs.declared.faults.ReqFault.{ReqFault}
use Rattle.part_api.specs.declared.faults.ReqFault.TheVariants as start
use Rattle.part_geometry.specs.declared.answers.Marked.{Marked}
use Rattle.part_geometry.specs.declared.answers.Marks.{Marks}
use Rattle.part_geometry.specs.declared.answers.RecvTest.{RecvTest}
use Rattle.part_geometry.specs.declared.answers.RecvTest.TheVariants as recv
use Rattle.plain_pair.specs.declared.answers.PlainLook.{PlainLook}
use Rattle.plain_pair.specs.declared.answers.PlainLook.TheVariants as look
use Rattle.plain_pair.specs.declared.answers.PlainRefusal.{PlainRefusal}
use Rattle.plain_pair.specs.declared.answers.PlainRefusal.TheVariants as refusal
use Rattle.plain_pair.specs.declared.answers.PlainSendTest.{PlainSendTest}
use Rattle.plain_pair.specs.declared.answers.PlainSendTest.TheVariants as send
use Rattle.plain_pair.specs.declared.answers.PlainStop.{PlainStop}
use Rattle.plain_pair.specs.declared.answers.PlainTake.{PlainTake}
use Rattle.plain_pair.specs.declared.answers.PlainTake.TheVariants as take
use Rattle.plain_pair.specs.declared.pair.PlainClosed.{PlainClosed}
use Rattle.plain_pair.specs.Taken.{Taken}

-- a hexadecimal digit in lower case
abbrev pub hex_digit : ℕ → ℕ
hex_digit n = if nat_lt n 10 then 48 + n else 87 + n

-- two digits a byte, the high one first
abbrev pub hex_of : List ℕ → List ℕ
hex_of [] = []
hex_of (byte ∷ rest) = hex_digit (byte / 16) ∷ hex_digit (byte % 16) ∷ hex_of rest

-- of `start`
abbrev pub start_text : Result ℕ ReqFault → List ℕ
start_text (Ok k) = codes "round " ++ decimal k
start_text (Err start.Freed) = codes "refused Freed"
start_text (Err start.Unmatched) = codes "refused Unmatched"
start_text (Err (start.AlreadyActive k)) = codes "refused AlreadyActive " ++ decimal k
start_text (Err start.RoundsSpent) = codes "refused RoundsSpent"

-- why a mark was refused
abbrev pub refusal_text : PlainRefusal → List ℕ
refusal_text refusal.BadPartition = codes "refused BadPartition"
refusal_text refusal.BadLength = codes "refused BadLength"
refusal_text refusal.NotActive = codes "refused NotActive"
refusal_text refusal.AlreadyMarked = codes "refused AlreadyMarked"
refusal_text refusal.BadRange = codes "refused BadRange"

-- of `ready`
abbrev pub ready_text : Result Marked PlainRefusal → List ℕ
ready_text (Ok m) = codes "marked " ++ decimal m.sent
ready_text (Err cause) = refusal_text cause

-- of `range` and `list`
abbrev pub marks_text : Result Marks PlainStop → List ℕ
marks_text (Ok m) = codes "marked " ++ decimal m.count ++ codes " " ++ decimal m.sent
marks_text (Err stop) = refusal_text stop.cause ++ codes " at " ++ decimal stop.at

-- of `arrived`
abbrev pub arrived_text : PlainLook → List ℕ
arrived_text look.Arrived = codes "flag 1"
arrived_text (look.NotYet i) = codes "flag 0 piece " ++ decimal i
arrived_text look.Idle = codes "flag 1 idle"
arrived_text look.BadPartition = codes "refused BadPartition"

-- why a partition wasn't taken
abbrev pub untaken_text : PlainTake → List ℕ
untaken_text take.Idle = codes "refused Idle"
untaken_text take.BadPartition = codes "refused BadPartition"
untaken_text (take.AlreadyTaken k) = codes "refused AlreadyTaken " ++ decimal k
untaken_text (take.NotYet i) = codes "refused NotYet " ++ decimal i

-- bytes that were taken
abbrev pub bytes_text : List ℕ → List ℕ
bytes_text bytes = codes "bytes " ++ hex_of bytes

-- of `take`
abbrev pub take_text : Result Taken PlainTake → List ℕ
take_text (Ok taken) = bytes_text taken.bytes
take_text (Err cause) = untaken_text cause

-- of `back`, by whether the arrival was kept
abbrev pub back_text : Bool → List ℕ
back_text kept = if kept then codes "ok" else codes "refused NotOut"

-- of `test` on a send
abbrev pub send_test_text : PlainSendTest → List ℕ
send_test_text send.Idle = codes "idle"
send_test_text send.Done = codes "done"
send_test_text (send.Unmarked p) = codes "unmarked " ++ decimal p
send_test_text (send.Unreleased k) = codes "unreleased " ++ decimal k

-- of `test` on a receive
abbrev pub recv_test_text : RecvTest → List ℕ
recv_test_text recv.Idle = codes "idle"
recv_test_text recv.Done = codes "done"
recv_test_text (recv.Untaken q) = codes "untaken " ++ decimal q
recv_test_text (recv.Out q) = codes "out " ++ decimal q

-- of `free`
abbrev pub free_text : Result (Unit {0}) FreeFault → List ℕ
free_text (Ok u) = codes "ok"
free_text (Err free.Freed) = codes "refused Freed"
free_text (Err free.Unmatched) = codes "refused Unmatched"
free_text (Err (free.Active k)) = codes "refused Active"

-- how far the pair came
abbrev pub closed_text : PlainClosed → List ℕ
closed_text c =
    codes " started " ++ decimal c.send_round ++ codes " " ++ decimal c.recv_round
    ++ codes " released " ++ decimal c.released ++ codes " pieces " ++ decimal c.pieces_out
