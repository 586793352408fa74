use Rattle.plain_pair.specs.Pair.{kept_of}
use Rattle.plain_pair.proofs.Starts.{sound_receiving, follows_start_recv}
use Rattle.plain_pair.proofs.pair.PlainPair.start_recv.Goals as goal

pub invariant_of-self : goal.invariant_of-self
invariant_of-self c =
    sound_receiving (kept_of c.self.inside) _ _ _ _ c.self.invariant c.in_ok-round.ensures c.clear.ensures c.clear-2.ensures

pub returns-clause-answer : goal.returns-clause-answer
returns-clause-answer c = rw (← c.self.view_is)
    (follows_start_recv (kept_of c.self.inside) _ _ _ c.in_ok-round.ensures c.clear.ensures c.clear-2.ensures)
