use Rattle.running_tests.proofs.Holding.{held_rests, answered_rests}
use Rattle.running_tests.proofs.held.Receiving.look.Goals as goal

pub invariant_of-self : goal.invariant_of-self
invariant_of-self c =
    let s = c.self.inside.end in
    held_rests c.self.inside.kept.items s c.parrived.new.self
    (answered_rests c.args.q c.parrived.result s c.parrived.new.self c.parrived.ensures.look) c.self.invariant
