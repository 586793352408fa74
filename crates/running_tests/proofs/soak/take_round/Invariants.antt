use Rattle.pair_rule.specs.Seats.{IsOf}
use Rattle.running_tests.proofs.soak.take_round.Given as goal

abbrev pub invariant-loop-q : goal.invariant-loop-q
invariant-loop-q l = IsOf l.end.table l.end.view l.pair
