use Rattle.std.proofs.Common.{◌≡◌, ◌*◌, ◌≤◌, unsigned_abs}
use Rattle.cell_lanes.proofs.WindowFacts.{rows_below}
use Rattle.cell_lanes.proofs.sums.sum_of_one.Given as goal

abbrev pub invariant-loop-a : goal.invariant-loop-a
invariant-loop-a l = record {
  value : l.sum ≡ rows_below l.weights l.window l.width l.x l.a;
  limits : unsigned_abs l.sum ≤ l.a * 5000000000000000;
}
