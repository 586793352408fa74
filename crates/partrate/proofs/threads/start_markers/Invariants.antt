use Rattle.std.proofs.Common.{◌≡◌, ◌≤◌, All}
use Rattle.pair_rule.specs.Seats.{IsOf}
use Rattle.partrate.proofs.threads.start_markers.Given as goal

abbrev pub invariant-loop-number : goal.invariant-loop-number
invariant-loop-number g l =
    (l.end.view.send.markers ≤ l.number) × IsOf l.end.table l.end.view l.shared.pair
    × All (λ h. h.promise.0.now ≡ l.shared.pair) l.threads.items
