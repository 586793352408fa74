use Rattle.std.proofs.Common.{refl}
use Rattle.part_geometry.proofs.WalkFacts.{first_before, first_side}
use Rattle.part_geometry.proofs.walk.Position.first.Goals as goal

pub returns-clause-before : goal.returns-clause-before
returns-clause-before c =
    first_before _ _ c.total-total.ensures.limits refl refl
    (first_side _ _ _ c.first.ensures c.send_bytes.ensures.value)
    (first_side _ _ _ c.first-2.ensures c.recv_bytes.ensures.value) refl refl refl refl
