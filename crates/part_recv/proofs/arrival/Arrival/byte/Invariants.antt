use Rattle.part_recv.proofs.Bytes.{IsByte}
use Rattle.part_recv.proofs.arrival.Arrival.byte.Given as goal

abbrev pub invariant-loop-cell : goal.invariant-loop-cell
invariant-loop-cell g l = IsByte l.self-inside.shelf.bufs l.i l.at l.cell
