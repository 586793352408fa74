use Rattle.std.proofs.Common.{◌≡◌, All}
use Rattle.std.specs.Vec.Iter.{into_iter_items}
use Rattle.pair_rule.specs.Seats.{IsOf}
use Rattle.partrate.proofs.threads.join_markers.Given as goal

abbrev pub invariant-loop-thread : goal.invariant-loop-thread
invariant-loop-thread g l =
    (goal.iterator-loop-thread g).can_next l.thread-iterator × (goal.iterator-loop-thread g).is_finite l.thread-iterator
    × IsOf l.end.table l.end.view l.pair
    × All (λ h. h.promise.0.now ≡ l.pair) (into_iter_items l.thread-iterator)
