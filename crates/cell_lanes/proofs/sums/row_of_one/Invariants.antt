use Rattle.std.proofs.Common.{◌≡◌, ◌*◌, ◌≤◌, unsigned_abs}
use Rattle.cell_lanes.proofs.WindowFacts.{row_below}
use Rattle.cell_lanes.proofs.sums.row_of_one.Given as goal

abbrev pub invariant-loop-b : goal.invariant-loop-b
invariant-loop-b l = record {
  value : l.sum ≡ row_below l.weights l.window l.width l.x l.a l.b;
  limits : unsigned_abs l.sum ≤ l.b * 1000000000000000;
}
