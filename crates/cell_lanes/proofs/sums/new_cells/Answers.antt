use Rattle.std.proofs.Common.{length}
use Rattle.cell_lanes.proofs.WindowFacts.{new-at}
use Rattle.cell_lanes.proofs.sums.new_cells.Goals as goal

pub returns-clause-values : goal.returns-clause-values
returns-clause-values c x h =
    new-at c.args.weights.now c.args.window.now c.args.width (length c.args.out.now) x c.args.divisor.now c.row_sums.new.out c.quotients.new.sums c.row_sums.auto.out
    c.row_sums.ensures.sums c.quotients.ensures.values h
