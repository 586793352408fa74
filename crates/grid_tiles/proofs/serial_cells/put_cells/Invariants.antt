use Rattle.grid_tiles.specs.Blocks.{IsPut}
use Rattle.grid_tiles.proofs.serial_cells.put_cells.Given as goal

abbrev pub invariant-loop-k : goal.invariant-loop-k
invariant-loop-k l = IsPut l.y l.x l.k l.cols l.values l.fn.block l.block
