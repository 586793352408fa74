use Rattle.cell_lanes.proofs.RowFacts.{EndsSet}
use Rattle.cell_lanes.proofs.row.set_ends.Given as goal

abbrev pub invariant-loop-x : goal.invariant-loop-x
invariant-loop-x l = EndsSet l.rule l.cols l.from l.x l.fn.row l.row
