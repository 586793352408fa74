use Rattle.cell_lanes.proofs.PaddedFacts.{RowSet}
use Rattle.cell_lanes.proofs.padded.set_end_row.Given as goal

abbrev pub invariant-loop-x : goal.invariant-loop-x
invariant-loop-x l = RowSet l.rule l.rows l.cols l.y l.x l.fn.values l.values
