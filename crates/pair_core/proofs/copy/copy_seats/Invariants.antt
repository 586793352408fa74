use Rattle.pair_core.proofs.StateCopy.{AreSome}
use Rattle.pair_core.proofs.copy.copy_seats.Given as goal

abbrev pub invariant-loop-at : goal.invariant-loop-at
invariant-loop-at l = AreSome l.at l.fn.seats l.copies.items
