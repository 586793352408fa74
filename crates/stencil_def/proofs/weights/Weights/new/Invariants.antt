use Rattle.std.proofs.Common.{◌≡◌, ℕ, ◌<◌, ◌≤◌, length, pos, get_or}
use Rattle.std.specs.List.{All}
use Rattle.stencil_def.specs.Limits.{IsWeight}
use Rattle.stencil_def.proofs.weights.Weights.new.Given as goal

abbrev pub invariant-loop-i : goal.invariant-loop-i
invariant-loop-i l = record {
  length : length l.kept ≡ 25;
  taken : (k : ℕ) → k < l.i → get_or l.kept k (pos 0) ≡ get_or l.values k (pos 0);
  rest : (k : ℕ) → l.i ≤ k → get_or l.kept k (pos 0) ≡ pos 0;
  limits : All IsWeight l.kept;
}
