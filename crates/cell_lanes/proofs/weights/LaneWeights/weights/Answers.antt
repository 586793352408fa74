use Rattle.std.proofs.Common.{subst}
use Rattle.cell_lanes.specs.Mirror.{AreReady}
use Rattle.cell_lanes.proofs.ReadyFacts.{weight-limits}
use Rattle.cell_lanes.proofs.weights.LaneWeights.weights.Goals as goal

pub returns-clause-limits : goal.returns-clause-limits
returns-clause-limits c a b h l =
    let s = c.self.inside in
    weight-limits c.args.self.now s.lanes s.is_mirrored a b (subst (λ w. AreReady w s.lanes s.is_mirrored) c.self.view_is c.self.invariant) h l
