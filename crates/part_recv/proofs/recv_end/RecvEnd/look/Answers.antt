use Rattle.std.proofs.Common.{sym, ap, ◌∙◌, subst}
use Rattle.pair_rule.specs.Seats.{RecvHeld}
use Rattle.part_recv.specs.Receiving.{End, IsEnd, is_active}
use Rattle.part_recv.proofs.Ending.{side_active}
use Rattle.part_recv.proofs.Finding.{found_keeps, found_says}
use Rattle.part_recv.proofs.recv_end.RecvEnd.look.Goals as goal

pub invariant_of-self : goal.invariant_of-self
invariant_of-self g c =
    let f = c.look_over.ensures.found in
    subst (λ (z : RecvHeld). IsEnd c.self.inside.active c.self.inside.watchers z) (sym f.1)
    (found_keeps c.round-round.result c.args.q c.look_over.result c.self.inside.seat f.0 c.self.inside.active c.self.inside.watchers f.2 c.self.invariant)

pub returns-clause-found : goal.returns-clause-found
returns-clause-found g c =
    let active = side_active c.self.inside.active c.self.inside.seat.view c.self.invariant.side (ap (λ (z : End). is_active z.view) c.self.view_is ∙ c.requires.part.0) in
    found_says c.round-round.result c.args.q c.look_over.result c.self.inside.seat c.look_over.new.seat c.args.self.now c.self.view_is c.round-round.ensures c.lanes-lanes.ensures.number active.1 c.look_over.ensures.found
