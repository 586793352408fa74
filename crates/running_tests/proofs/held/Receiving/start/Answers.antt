use Rattle.running_tests.proofs.Holding.{held_refused, held_none}
use Rattle.running_tests.proofs.held.Receiving.start.Goals as goal

pub invariant_of-self : goal.invariant_of-self
invariant_of-self g c =
    held_refused c.self.inside.kept.items c.self.inside.end c.start.new.self c.if-is_active.ensures.value c.start.ensures.end
    c.self.invariant

pub invariant_of-self-2 : goal.invariant_of-self-2
invariant_of-self-2 g c = held_none c.no_arrivals.result.items _ c.no_arrivals.ensures
