use Rattle.halo_message.specs.Passing.{IsMarking, Stands}
use Rattle.halo_message.proofs.passing.send.Given as goal

-- the first partitions are marked
abbrev pub invariant-loop-p : goal.invariant-loop-p
invariant-loop-p l = Stands l.fn.geometry l.pair (IsMarking l.fn.geometry l.round l.bytes l.p)
