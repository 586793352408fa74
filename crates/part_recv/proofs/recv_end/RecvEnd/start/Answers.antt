use Rattle.std.proofs.Common.{true, sym, ap, ◌∙◌, subst}
use Rattle.pair_core.specs.Moves.{IsRecvActive}
use Rattle.pair_rule.specs.Seats.{RecvHeld}
use Rattle.part_recv.specs.Receiving.{IsEnd, opened}
use Rattle.part_recv.proofs.Ending.{end_starts}
use Rattle.part_recv.proofs.recv_end.RecvEnd.start.Goals as goal

pub invariant_of-self : goal.invariant_of-self
invariant_of-self g c =
    let s : RecvHeld = c.self.inside.seat in
    let is = c.open_round.ensures.seat in
    let side : IsRecvActive (opened s.view).geometry (opened s.view).recv = subst (λ (z : RecvHeld). IsRecvActive z.view.geometry z.view.recv) is c.open_round.ensures.side in
    subst (λ (z : RecvHeld). IsEnd true c.self.inside.watchers z) (sym is)
    (end_starts c.self.inside.active c.self.inside.watchers s (opened s.view)
    (sym (ap (λ (z : RecvHeld). z.view.geometry) is) ∙ c.open_round.ensures.geometry) side
    (c.self.invariant.out ∙ (sym c.open_round.ensures.watchers ∙ ap (λ (z : RecvHeld). z.view.recv.watchers) is)) c.open_round.ensures.home c.self.invariant)
