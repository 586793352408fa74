use Rattle.std.proofs.Common.{ap, ◌∙◌}
use Rattle.part_recv.specs.Receiving.{End, is_active}
use Rattle.part_recv.proofs.Ending.{end_rests}
use Rattle.part_recv.proofs.recv_end.RecvEnd.into_seat.Goals as goal

pub returns-clause-rest : goal.returns-clause-rest
returns-clause-rest g c =
    end_rests c.self.inside.active c.self.inside.watchers c.self.inside.seat c.lanes-lanes.ensures.kept c.self.invariant
    (ap (λ (z : End). is_active z.view) c.self.view_is ∙ c.requires.idle) (ap (λ (z : End). z.view.recv.watchers) c.self.view_is ∙ c.requires.alone)
