use Rattle.std.proofs.Common.{◌≡◌, ◌≤◌, ◌^◌, pos, int_div}
use Rattle.stencil_def.specs.Limits.{IsValue}
use Rattle.stencil_def.specs.Step.{clamped}
use Rattle.cell_lanes.proofs.MapFacts.{IsMappedBelow}
use Rattle.cell_lanes.proofs.divisor.Divisor.quotients.Given as goal

abbrev pub invariant-loop-x : goal.invariant-loop-x
invariant-loop-x l = record {
  power : l.self ≡ pos (2 ^ l.shift);
  small : 2 ^ l.shift ≤ 1000000;
  mapped : IsMappedBelow IsValue (λ sum. clamped (int_div sum l.self)) l.fn.sums l.sums l.x;
}

abbrev pub invariant-loop-x-else-self-shift : goal.invariant-loop-x-else-self-shift
invariant-loop-x-else-self-shift l = IsMappedBelow IsValue (λ sum. clamped (int_div sum l.self)) l.fn.sums l.sums l.x
