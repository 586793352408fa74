use Rattle.std.proofs.Common.{◌+◌, ap, pos, get_or}
use Rattle.cell_lanes.proofs.RowFacts.{row-cells}
use Rattle.cell_lanes.proofs.block.set_row_ends.Goals as goal

pub returns-clause-cells : goal.returns-clause-cells
returns-clause-cells c =
    let e = c.reach-reach.ensures.value in
    row-cells c.args.rule.now c.args.cols c.reach-reach.result (λ col. get_or c.args.row.now (c.args.rule.now.weights.reach + col) (pos 0))
    c.args.row.now c.set_ends.new.row c.set_ends-2.new.row c.requires.cols.0 e
    (λ col h. ap (λ r. get_or c.args.row.now (r + col) (pos 0)) e)
    c.set_ends.ensures.ends c.set_ends.ensures.above c.set_ends-2.ensures.ends c.set_ends-2.ensures.below
