use Rattle.pair_rule.specs.Seats.{IsOf}
use Rattle.partrate.proofs.receiving.receive_all.Given as goal

abbrev pub invariant-loop : goal.invariant-loop
invariant-loop g l = IsOf l.receiving.end.table l.receiving.end.view l.shared.pair
