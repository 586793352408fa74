use Rattle.grid_tiles.specs.Blocks.{IsColumnSet}
use Rattle.grid_tiles.proofs.serial_cells.set_column.Given as goal

abbrev pub invariant-loop-row : goal.invariant-loop-row
invariant-loop-row l = IsColumnSet l.rule l.source l.x l.row l.fn.block l.block
