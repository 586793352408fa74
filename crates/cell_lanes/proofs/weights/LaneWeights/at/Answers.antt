use Rattle.std.proofs.Common.{subst}
use Rattle.cell_lanes.specs.Mirror.{AreReady}
use Rattle.cell_lanes.proofs.ReadyFacts.{loaded-weight, loaded-limits}
use Rattle.cell_lanes.proofs.weights.LaneWeights.at.Goals as goal

pub returns-clause-value : goal.returns-clause-value
returns-clause-value c =
    let s = c.self.inside in
    loaded-weight c.args.self.now s.lanes s.is_mirrored c.args.reach c.args.a c.args.b (subst (λ w. AreReady w s.lanes s.is_mirrored) c.self.view_is c.self.invariant) c.requires.reach c.requires.row c.requires.column

pub returns-clause-limits : goal.returns-clause-limits
returns-clause-limits c =
    let s = c.self.inside in
    loaded-limits c.args.self.now s.lanes s.is_mirrored c.args.reach c.args.a c.args.b (subst (λ w. AreReady w s.lanes s.is_mirrored) c.self.view_is c.self.invariant) c.requires.reach c.requires.row c.requires.column
