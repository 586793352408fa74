use Rattle.std.proofs.Common.{arith}
use Rattle.cell_lanes.proofs.PaddedFacts.{rows-set-next}
use Rattle.cell_lanes.proofs.padded.set_end_rows.Goals as goal

pub loop-y-preserved : goal.loop-y-preserved
loop-y-preserved c =
    rows-set-next c.args.rule.now c.args.rows c.args.cols c.args.from c.args.to c.loop-y.y c.args.values.now c.loop-y.values c.set_end_row.new.values c.loop-y.invariant
    (omega arith) c.loop-y-test.true c.requires.rows.0 c.requires.outside c.set_end_row.ensures.row c.set_end_row.ensures.below c.set_end_row.ensures.above c.set_end_row.ensures.values

pub set_end_row-requires-clause-outside : goal.set_end_row-requires-clause-outside
set_end_row-requires-clause-outside c row h e =
    let less = c.loop-y-test.true in
    let order = c.loop-y.auto.y in
    c.requires.outside row h (omega arith) (omega arith)
