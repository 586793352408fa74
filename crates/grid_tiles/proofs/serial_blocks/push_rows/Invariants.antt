use Rattle.std.proofs.Common.{◌≡◌, ◌++◌}
use Rattle.std.specs.List.{flat_map, range_with_len}
use Rattle.grid_tiles.specs.Tiles.{whole_row}
use Rattle.grid_tiles.proofs.serial_blocks.push_rows.Given as goal

abbrev pub invariant-loop-row : goal.invariant-loop-row
invariant-loop-row l = l.values.items ≡ l.fn.values.items ++ flat_map (whole_row l.plan l.blocks l.a) (range_with_len 0 l.row)
