use Rattle.std.proofs.Common.{◌≡◌, ℕ, ◌+◌, ◌*◌, ◌≤◌, unsigned_abs, map, to_z, w64}
use Rattle.cell_lanes.specs.Lanes.{two}
use Rattle.cell_lanes.proofs.MirrorFacts.{alike_rows_below}
use Rattle.cell_lanes.proofs.mirrored.mirrored_sums_of_two.Given as goal

abbrev pub invariant-loop-a : goal.invariant-loop-a
invariant-loop-a l = record {
  sums : map (to_z w64) l.sums ≡ two (λ i. alike_rows_below l.weights l.window l.width (l.x + i) l.a);
  limits : (i : ℕ) → unsigned_abs (alike_rows_below l.weights l.window l.width (l.x + i) l.a) ≤ l.a * 12000000000000000;
}
