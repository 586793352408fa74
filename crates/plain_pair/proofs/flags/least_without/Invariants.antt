use Rattle.std.proofs.Common.{◌≡◌, ◌-◌, false, find, not, length, slice_index_or}
use Rattle.std.specs.List.{range_with_len}
use Rattle.plain_pair.proofs.flags.least_without.Given as goal

-- what there is to find, there is to find from here on
abbrev pub invariant-loop-i : goal.invariant-loop-i
invariant-loop-i l =
    find (λ x. not (slice_index_or l.flags x false)) (range_with_len 0 (length l.flags))
    ≡ find (λ x. not (slice_index_or l.flags x false)) (range_with_len l.i (length l.flags - l.i))
