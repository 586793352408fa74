use Rattle.grid_tiles.proofs.CellFacts.{CellsCopied}
use Rattle.grid_tiles.proofs.serial_cells.copy_cells.Given as goal

abbrev pub invariant-loop-k : goal.invariant-loop-k
invariant-loop-k l = CellsCopied l.block l.y l.x l.cols l.k l.out
