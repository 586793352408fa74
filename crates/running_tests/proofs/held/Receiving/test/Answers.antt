use Rattle.std.proofs.Common.{sym, subst}
use Rattle.part_recv.specs.Receiving.{End, test_answer}
use Rattle.running_tests.proofs.Holding.{Rests, held_rests, tested_rests}
use Rattle.running_tests.proofs.held.Receiving.test.Goals as goal

pub invariant_of-self : goal.invariant_of-self
invariant_of-self c =
    let s = c.self.inside.end in
    held_rests c.self.inside.kept.items s c.test.new.self
    (subst (λ (z : End). Rests s z) (sym c.test.ensures.end) (tested_rests (test_answer s) s)) c.self.invariant
