use Rattle.pair_rule.specs.Seats.{IsOf}
use Rattle.running_tests.proofs.shared.two_threads_mark_disjoint_partitions.Given as goal

abbrev pub invariant-loop-q : goal.invariant-loop-q
invariant-loop-q g l = IsOf l.recv.table l.recv.view l.pair
