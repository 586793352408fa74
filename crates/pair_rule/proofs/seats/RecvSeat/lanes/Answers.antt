use Rattle.std.proofs.Common.{length, subst}
use Rattle.pair_rule.specs.Seats.{AreLanes, RecvHeld}
use Rattle.pair_rule.proofs.seats.RecvSeat.lanes.Goals as goal

pub returns-clause-kept : goal.returns-clause-kept
returns-clause-kept g c = subst (λ (z : RecvHeld). AreLanes z.view (length z.slots) z.lanes) c.self.view_is c.self.invariant.2
