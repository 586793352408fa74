use Rattle.pair_rule.specs.Seats.{IsOf}
use Rattle.running_tests.proofs.soak.take.Given as goal

abbrev pub invariant-loop-i : goal.invariant-loop-i
invariant-loop-i l = IsOf l.end.table l.end.view l.pair
