use Rattle.pair_rule.specs.Seats.{IsOf}
use Rattle.partrate.proofs.sending.mark_all.Given as goal

abbrev pub invariant-loop-round : goal.invariant-loop-round
invariant-loop-round g l = IsOf l.marking.marker.table l.marking.marker.view l.shared.pair
