use Rattle.std.proofs.Common.{◌≡◌, ℕ, ◌+◌, ◌*◌, ◌≤◌, unsigned_abs, map, to_z, w64}
use Rattle.cell_lanes.specs.Lanes.{two}
use Rattle.cell_lanes.proofs.MirrorFacts.{alike_below}
use Rattle.cell_lanes.proofs.mirrored.alike_rows_of_two.Given as goal

abbrev pub invariant-loop-b : goal.invariant-loop-b
invariant-loop-b l = record {
  sums : map (to_z w64) l.sums ≡ two (λ i. alike_below l.weights l.window l.width (l.x + i) l.a l.b);
  limits : (i : ℕ) → unsigned_abs (alike_below l.weights l.window l.width (l.x + i) l.a l.b) ≤ l.b * 4000000000000000;
}
