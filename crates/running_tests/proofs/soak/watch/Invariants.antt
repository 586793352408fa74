use Rattle.pair_rule.specs.Seats.{IsOf}
use Rattle.running_tests.proofs.soak.watch.Given as goal

abbrev pub invariant-loop-i : goal.invariant-loop-i
invariant-loop-i l = IsOf l.watcher.table l.watcher.view l.pair
