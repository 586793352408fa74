use Rattle.std.proofs.Common.{◌≡◌, ◌-◌, ◌==◌, find, not, slice_index}
use Rattle.std.specs.List.{range_with_len}
use Rattle.plain_pair.proofs.marking.first_missing.Given as goal

-- what there is to find, there is to find from here on
abbrev pub invariant-loop-i : goal.invariant-loop-i
invariant-loop-i l =
    find (λ i. not (slice_index l.missing i == 0)) (range_with_len l.first (l.end - l.first))
    ≡ find (λ i. not (slice_index l.missing i == 0)) (range_with_len l.i (l.end - l.i))
