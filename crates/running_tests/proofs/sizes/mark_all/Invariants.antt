use Rattle.pair_rule.specs.Seats.{IsOf}
use Rattle.running_tests.proofs.sizes.mark_all.Given as goal

abbrev pub invariant-loop-p : goal.invariant-loop-p
invariant-loop-p l = IsOf l.marker.table l.marker.view l.pair
