use Rattle.std.proofs.Common.{◌≡◌, ◌++◌}
use Rattle.std.specs.List.{flat_map, range_with_len}
use Rattle.cell_lanes.specs.Block.{own_cells}
use Rattle.rank_task.proofs.serial_blocks.push_rows.Given as goal

abbrev pub invariant-loop-row : goal.invariant-loop-row
invariant-loop-row l = l.values.items ≡ l.fn.values.items ++ flat_map (own_cells l.block) (range_with_len 0 l.row)
