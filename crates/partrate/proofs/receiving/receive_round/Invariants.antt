use Rattle.pair_rule.specs.Seats.{IsOf}
use Rattle.partrate.proofs.receiving.receive_round.Given as goal

abbrev pub invariant-loop-partition : goal.invariant-loop-partition
invariant-loop-partition g l = IsOf l.receiving.end.table l.receiving.end.view l.shared.pair
