use Rattle.std.proofs.Common.{ap, ◌∙◌, sym, subst}
use Rattle.pair_core.specs.Moves.{IsRecvIdle}
use Rattle.pair_rule.specs.Seats.{RecvHeld}
use Rattle.pair_rule.proofs.LanesStay.{none_out}
use Rattle.pair_rule.proofs.seats.RecvSeat.into_place.Goals as goal

pub returns-clause-idle : goal.returns-clause-idle
returns-clause-idle g c idle =
    let inside = c.self.inside in
    let idle' = subst (λ (z : RecvHeld). IsRecvIdle z.view.recv) (sym c.self.view_is) idle in
    sym (ap (λ (z : RecvHeld). z.slots) c.self.view_is) ∙ none_out inside.seat.me.0 inside.seat.me.1 inside.lanes.items c.self.invariant.2 idle'
