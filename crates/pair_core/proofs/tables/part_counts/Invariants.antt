use Rattle.std.proofs.Common.{◌≡◌, map}
use Rattle.std.specs.List.{range_with_len}
use Rattle.part_geometry.specs.Pieces.{need_count}
use Rattle.pair_core.proofs.tables.part_counts.Given as goal

abbrev pub invariant-loop-i : goal.invariant-loop-i
invariant-loop-i l = l.counts.items ≡ map (need_count l.fn.geometry) (range_with_len 0 l.i)
