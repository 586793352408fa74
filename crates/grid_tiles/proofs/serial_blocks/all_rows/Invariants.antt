use Rattle.std.proofs.Common.{◌≡◌}
use Rattle.std.specs.List.{flat_map, range_with_len}
use Rattle.grid_tiles.specs.Tiles.{whole_rows}
use Rattle.grid_tiles.proofs.serial_blocks.all_rows.Given as goal

abbrev pub invariant-loop-a : goal.invariant-loop-a
invariant-loop-a l = l.values.items ≡ flat_map (whole_rows l.plan l.blocks) (range_with_len 0 l.a)
