use Rattle.std.proofs.Common.{◌≡◌, ◌++◌}
use Rattle.std.specs.List.{flat_map, range_with_len}
use Rattle.cell_lanes.specs.Block.{own_cells}
use Rattle.grid_tiles.specs.Plan.{number}
use Rattle.grid_tiles.specs.Tiles.{block_at}
use Rattle.grid_tiles.proofs.serial_blocks.push_row.Given as goal

abbrev pub invariant-loop-b : goal.invariant-loop-b
invariant-loop-b l = l.values.items ≡ l.fn.values.items ++ flat_map (λ b. own_cells (block_at l.blocks (number l.plan l.a b)) l.row) (range_with_len 0 l.b)
