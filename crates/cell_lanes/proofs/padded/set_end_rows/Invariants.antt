use Rattle.cell_lanes.proofs.PaddedFacts.{RowsSet}
use Rattle.cell_lanes.proofs.padded.set_end_rows.Given as goal

abbrev pub invariant-loop-y : goal.invariant-loop-y
invariant-loop-y l = RowsSet l.rule l.rows l.cols l.from l.y l.fn.values l.values
