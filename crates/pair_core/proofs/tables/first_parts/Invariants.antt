use Rattle.std.proofs.Common.{◌≡◌, map}
use Rattle.std.specs.List.{range_with_len}
use Rattle.part_geometry.specs.Pieces.{first_part}
use Rattle.pair_core.proofs.tables.first_parts.Given as goal

abbrev pub invariant-loop-i : goal.invariant-loop-i
invariant-loop-i l = l.firsts.items ≡ map (first_part l.fn.geometry) (range_with_len 0 l.i)
