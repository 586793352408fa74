use Rattle.part_recv.proofs.Ending.{end_begins}
use Rattle.part_recv.proofs.recv_end.RecvEnd.from_seat.Goals as goal

pub invariant_of-result : goal.invariant_of-result
invariant_of-result g c = end_begins c.args.seat c.lanes-lanes.ensures.kept c.requires.rest
