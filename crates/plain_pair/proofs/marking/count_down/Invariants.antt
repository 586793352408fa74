use Rattle.std.proofs.Common.{◌≡◌, ◌-◌, ◌≤◌, ◌==◌, count_by, slice_index}
use Rattle.std.specs.List.{range_with_len}
use Rattle.plain_pair.specs.Lessens.{Lessens}
use Rattle.plain_pair.proofs.marking.count_down.Given as goal

abbrev pub invariant-loop-i : goal.invariant-loop-i
invariant-loop-i l = record {
  left : Lessens l.fn.missing.items l.missing.items l.first l.i;
  count : l.whole ≡ count_by (λ i. slice_index l.fn.missing.items i == 1) (range_with_len l.first (l.i - l.first));
  few : l.whole ≤ l.i;
}
