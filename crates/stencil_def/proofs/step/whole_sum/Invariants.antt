use Rattle.std.proofs.Common.{◌≡◌, ◌*◌, ◌≤◌, unsigned_abs}
use Rattle.stencil_def.specs.Square.{side}
use Rattle.stencil_def.specs.Step.{sum_below, weighted}
use Rattle.stencil_def.proofs.step.whole_sum.Given as goal

abbrev pub invariant-loop-a : goal.invariant-loop-a
invariant-loop-a l = record {
  value : l.sum ≡ sum_below l.a (λ a. sum_below (side l.rule.weights) (λ b. weighted l.grid l.rule l.row l.col a b));
  limits : unsigned_abs l.sum ≤ l.a * 5000000000000000;
}
