-- One more place has what the row's own values give it, and those aren't among the places that were set.
use Rattle.std.proofs.Common.{◌∙◌, ◌+◌, ◌*◌, ap, pos, get_or, arith}
use Rattle.cell_lanes.proofs.RowFacts.{end-same, ends-next}
use Rattle.cell_lanes.proofs.row.set_ends.Goals as goal

pub end_value-requires-clause-own : goal.end_value-requires-clause-own
end_value-requires-clause-own c i h =
    let reach = c.reach-reach.ensures.value in
    let long = c.loop-x.auto.row in
    let whole = c.requires.row in
    omega arith

pub loop-x-preserved : goal.loop-x-preserved
loop-x-preserved c =
    let rule = c.args.rule.now in
    let row = c.loop-x.row in
    let less = c.loop-x-test.true in
    let order = c.loop-x.auto.x in
    let reach = c.reach-reach.ensures.value in
    let value = c.end_value.ensures.value
    ∙ end-same rule c.args.cols c.loop-x.x (λ i. get_or row (c.reach-reach.result + i * 1) (pos 0)) (λ i. get_or row (rule.weights.reach + i) (pos 0)) c.requires.cols.0
    (λ i h. ap (λ k. get_or row k (pos 0)) (omega arith)) in
    ends-next rule c.args.cols c.args.from c.args.to c.loop-x.x c.args.row.now row c.end_value.result c.loop-x.invariant
    (omega arith) less (omega arith) c.requires.cols.0 c.requires.outside value c.end_value.ensures.limits
