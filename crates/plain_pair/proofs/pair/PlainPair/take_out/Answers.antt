use Rattle.std.proofs.Common.{◌≡◌, None, sym, subst, arith}
use Rattle.plain_pair.specs.Pair.{kept_of}
use Rattle.plain_pair.specs.Looking.{CanTake, kept_missing}
use Rattle.plain_pair.proofs.Takes.{sound_take, takes, is_out}
use Rattle.plain_pair.proofs.pair.PlainPair.take_out.Goals as goal

pub invariant_of-self : goal.invariant_of-self
invariant_of-self c =
    rw (c.add.ensures, c.take_at-buffer.ensures.left, c.recv_place-index.ensures.place, ← c.self.view_is)
    (sound_take (kept_of c.self.inside) _ c.args.q c.self.invariant (subst (λ k. CanTake k c.args.q) (sym c.self.view_is) c.requires.free)
    (subst (λ k. kept_missing k c.args.q ≡ None) (sym c.self.view_is) c.requires.arrived))

pub returns-clause-takes : goal.returns-clause-takes
returns-clause-takes c =
    rw (← c.self.view_is, c.add.ensures, c.take_at-buffer.ensures.left, c.new.ensures.value, c.take_at-buffer.ensures.taken, c.recv_place-index.ensures.place, ← c.self.view_is)
    (takes (kept_of c.self.inside) _ c.args.q c.self.invariant (subst (λ k. CanTake k c.args.q) (sym c.self.view_is) c.requires.free)
    (subst (λ k. kept_missing k c.args.q ≡ None) (sym c.self.view_is) c.requires.arrived))

pub returns-clause-out : goal.returns-clause-out
returns-clause-out c =
    rw (c.add.ensures, c.take_at-buffer.ensures.left, c.new.ensures.value, c.take_at-buffer.ensures.taken, c.recv_place-index.ensures.place, ← c.self.view_is)
    (is_out (kept_of c.self.inside) _ c.args.q c.self.invariant (subst (λ k. CanTake k c.args.q) (sym c.self.view_is) c.requires.free))

pub new-requires : goal.new-requires
new-requires c =
    let out = is_out (kept_of c.self.inside) _ c.args.q c.self.invariant (subst (λ k. CanTake k c.args.q) (sym c.self.view_is) c.requires.free) in
    let size = out.size in
    let small = c.self.invariant.shape.recv_bytes in
    rw (c.take_at-buffer.ensures.taken, c.recv_place-index.ensures.place, ← c.self.view_is) (omega arith)
