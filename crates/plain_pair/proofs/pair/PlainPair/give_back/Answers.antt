use Rattle.std.proofs.Common.{sym, subst}
use Rattle.plain_pair.specs.Pair.{kept_of}
use Rattle.plain_pair.specs.Looking.{IsOut}
use Rattle.plain_pair.proofs.Backs.{sound_back, stands_back}
use Rattle.plain_pair.proofs.pair.PlainPair.give_back.Goals as goal

pub invariant_of-self : goal.invariant_of-self
invariant_of-self c =
    rw (c.add.ensures, c.put_at.ensures, c.into_buffer.ensures.value, c.recv_place-index.ensures.place, ← c.self.view_is, c.partition-q.ensures.value)
    (sound_back (kept_of c.self.inside) _ c.args.arrival c.self.invariant (subst (λ k. IsOut k c.args.arrival) (sym c.self.view_is) c.requires.out))

pub returns-clause-back : goal.returns-clause-back
returns-clause-back c r =
    rw (← c.self.view_is, c.add.ensures, c.put_at.ensures, c.into_buffer.ensures.value, c.recv_place-index.ensures.place, ← c.self.view_is, c.partition-q.ensures.value)
    (stands_back (kept_of c.self.inside) _ r c.args.arrival c.self.invariant (subst (λ k. IsOut k c.args.arrival) (sym c.self.view_is) c.requires.out))
