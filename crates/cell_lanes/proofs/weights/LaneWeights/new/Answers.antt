use Rattle.std.proofs.Common.{◌+◌, ◌*◌, arith}
use Rattle.cell_lanes.proofs.ReadyFacts.{ready-none, ready-at}
use Rattle.cell_lanes.proofs.weights.LaneWeights.new.Goals as goal

pub loop-a-init : goal.loop-a-init
loop-a-init c = ready-none c.args.weights (0 * (2 * c.reach.result + 1)) (omega arith)

pub loop-b-preserved : goal.loop-b-preserved
loop-b-preserved c =
    ready-at c.args.weights c.loop-b.lanes c.reach.result c.loop-a.a c.loop-b.b c.at-weight.result c.loop-b.invariant
    c.reach.ensures.value c.reach.ensures.limits.1 c.loop-a-test.true c.loop-b-test.true c.at-weight.ensures.value c.at-weight.ensures.limits
