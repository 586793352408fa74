use Rattle.cell_lanes.proofs.BlockFacts.{EndsSet}
use Rattle.cell_lanes.proofs.block.set_all_ends.Given as goal

abbrev pub invariant-loop-y : goal.invariant-loop-y
invariant-loop-y l = EndsSet l.rule l.rows l.cols l.from l.y l.fn.values l.values
