use Rattle.cell_lanes.proofs.PaddedFacts.{RowTaken}
use Rattle.cell_lanes.proofs.padded.set_row.Given as goal

abbrev pub invariant-loop-col : goal.invariant-loop-col
invariant-loop-col l = RowTaken l.fn.grid l.grid l.row l.col l.cells
