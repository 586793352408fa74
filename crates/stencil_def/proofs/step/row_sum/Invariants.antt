use Rattle.std.proofs.Common.{◌≡◌, ◌*◌, ◌≤◌, unsigned_abs}
use Rattle.stencil_def.specs.Step.{sum_below, weighted}
use Rattle.stencil_def.proofs.step.row_sum.Given as goal

abbrev pub invariant-loop-b : goal.invariant-loop-b
invariant-loop-b l = record {
  value : l.sum ≡ sum_below l.b (λ b. weighted l.grid l.rule l.row l.col l.a b);
  limits : unsigned_abs l.sum ≤ l.b * 1000000000000000;
}
