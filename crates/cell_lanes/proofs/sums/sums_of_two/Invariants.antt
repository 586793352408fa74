use Rattle.std.proofs.Common.{◌≡◌, ℕ, ◌+◌, ◌*◌, ◌≤◌, unsigned_abs, map, to_z, w64}
use Rattle.cell_lanes.specs.Lanes.{two}
use Rattle.cell_lanes.proofs.WindowFacts.{rows_below}
use Rattle.cell_lanes.proofs.sums.sums_of_two.Given as goal

abbrev pub invariant-loop-a : goal.invariant-loop-a
invariant-loop-a l = record {
  sums : map (to_z w64) l.sums ≡ two (λ i. rows_below l.weights l.window l.width (l.x + i) l.a);
  limits : (i : ℕ) → unsigned_abs (rows_below l.weights l.window l.width (l.x + i) l.a) ≤ l.a * 5000000000000000;
}
