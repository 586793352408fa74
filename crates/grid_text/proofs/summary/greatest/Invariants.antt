use Rattle.std.proofs.Common.{◌≡◌, take, pos, fold, slice_index_or}
use Rattle.std.specs.Int.{int_max}
use Rattle.grid_text.proofs.summary.greatest.Given as goal

abbrev pub invariant-loop-value : goal.invariant-loop-value
invariant-loop-value l = l.greatest ≡ fold int_max (slice_index_or l.values 0 (pos 0)) (take l.value-index l.values)
