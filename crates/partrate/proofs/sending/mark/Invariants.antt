use Rattle.pair_rule.specs.Seats.{IsOf}
use Rattle.partrate.proofs.sending.mark.Given as goal

-- it is still the pair's
abbrev pub invariant-loop : goal.invariant-loop
invariant-loop g l =
    (goal.iterator-loop g).can_next l.iterator' × (goal.iterator-loop g).is_finite l.iterator'
    × IsOf l.marker.table l.marker.view l.shared.pair
