use Rattle.pair_rule.specs.Seats.{IsOf}
use Rattle.partrate.proofs.watching.watch_all.Given as goal

abbrev pub invariant-loop-partition : goal.invariant-loop-partition
invariant-loop-partition g l = IsOf l.watcher.table l.watcher.view l.shared.pair

abbrev pub invariant-loop-round : goal.invariant-loop-round
invariant-loop-round g l = IsOf l.watcher.table l.watcher.view l.shared.pair
