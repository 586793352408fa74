use Rattle.part_send.proofs.Laid.{AreLaid}
use Rattle.part_send.proofs.lay.lay.Given as goal

abbrev pub invariant-loop-piece : goal.invariant-loop-piece
invariant-loop-piece g l = AreLaid l.fn.seat l.seat l.round l.partition l.low l.high l.piece l.sent
