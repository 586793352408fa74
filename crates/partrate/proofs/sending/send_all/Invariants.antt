use Rattle.pair_rule.specs.Seats.{IsOf}
use Rattle.partrate.proofs.sending.send_all.Given as goal

abbrev pub invariant-loop : goal.invariant-loop
invariant-loop g l =
    IsOf l.sender.table l.sender.view l.shared.pair
    × IsOf l.marking.marker.table l.marking.marker.view l.shared.pair
