use Rattle.pair_core.specs.Picks.{IsFilledTo}
use Rattle.pair_core.proofs.seat.fill.Given as goal

abbrev pub invariant-loop-c : goal.invariant-loop-c
invariant-loop-c l = IsFilledTo l.fn.tables l.c l.fn.place l.fn.pick l.fn.spot l.fn.slots.items l.slots.items
