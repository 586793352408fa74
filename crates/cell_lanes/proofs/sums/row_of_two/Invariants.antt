use Rattle.std.proofs.Common.{◌≡◌, ℕ, ◌+◌, ◌*◌, ◌≤◌, unsigned_abs, map, to_z, w64}
use Rattle.cell_lanes.specs.Lanes.{two}
use Rattle.cell_lanes.proofs.WindowFacts.{row_below}
use Rattle.cell_lanes.proofs.sums.row_of_two.Given as goal

abbrev pub invariant-loop-b : goal.invariant-loop-b
invariant-loop-b l = record {
  sums : map (to_z w64) l.sums ≡ two (λ i. row_below l.weights l.window l.width (l.x + i) l.a l.b);
  limits : (i : ℕ) → unsigned_abs (row_below l.weights l.window l.width (l.x + i) l.a l.b) ≤ l.b * 1000000000000000;
}
