-- What a take shows: its bytes are those that the record has for the partition.
use Rattle.std.proofs.Common.{sym}
use Rattle.script_pair.specs.Laws.{TakesShowMarks}
use Rattle.script_pair.proofs.Holding.{taken_is}

-- an accepted take shows the bytes that the marks of the receiver's round gave at the partition's places
pub takes_show_marks : TakesShowMarks
takes_show_marks g d q t is = rw (is, taken_is g d.record_ q t (sym is))
