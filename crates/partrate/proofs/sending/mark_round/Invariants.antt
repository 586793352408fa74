use Rattle.pair_rule.specs.Seats.{IsOf}
use Rattle.partrate.proofs.sending.mark_round.Given as goal

abbrev pub invariant-loop-partition : goal.invariant-loop-partition
invariant-loop-partition g l = IsOf l.marking.marker.table l.marking.marker.view l.shared.pair
