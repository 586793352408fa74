use Rattle.pair_rule.specs.Seats.{IsOf}
use Rattle.running_tests.proofs.sizes.two_rounds_of_1024_by_1023_partitions.Given as goal

abbrev pub invariant-loop-round : goal.invariant-loop-round
invariant-loop-round g l = record {
  marker : IsOf l.marker.table l.marker.view l.pair;
  send : IsOf l.send.table l.send.view l.pair;
  recv : IsOf l.recv.table l.recv.view l.pair;
}
