use Rattle.std.proofs.Common.{ℕ, ◌<◌, ◌≤◌}
use Rattle.cell_lanes.proofs.ReadyFacts.{IsMirroredAt}
use Rattle.cell_lanes.proofs.weights.is_mirrored.Given as goal

abbrev pub invariant-loop-a : goal.invariant-loop-a
invariant-loop-a l = (a b : ℕ) → a < l.a → b ≤ l.weights.reach → IsMirroredAt l.weights a b

abbrev pub invariant-loop-b : goal.invariant-loop-b
invariant-loop-b l = record {
  above : (a b : ℕ) → a < l.a → b ≤ l.weights.reach → IsMirroredAt l.weights a b;
  here : (b : ℕ) → b < l.b → IsMirroredAt l.weights l.a b;
}
