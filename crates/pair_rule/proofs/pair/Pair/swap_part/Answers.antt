use Rattle.std.proofs.Common.{◌≡◌, ◌<◌, true, ap, sym, ◌∙◌, subst, length, arith}
use Rattle.part_geometry.specs.Shape.{Shape}
use Rattle.pair_rule.proofs.LanesKept.{flags_there}
use Rattle.pair_rule.proofs.pair.Pair.swap_part.Goals as goal

pub received-first-requires : goal.received-first-requires
received-first-requires g c =
    let me = c.args.seat.now.me in
    let same : me.0.geometry ≡ c.self.inside.tables = (c.requires.pair.1 ∙ ap (λ v. v.key.geometry) (sym c.self.view_is)) ∙ sym c.self.invariant.0 in
    subst (λ (z : Shape). c.args.q < z.recv_parts) same (flags_there me.0 (length me.1) c.args.q c.args.lanes.now true true c.requires.lanes c.requires.out)

pub swap_in-requires-clause-slot : goal.swap_in-requires-clause-slot
swap_in-requires-clause-slot g c =
    let o = c.requires.out in
    record { lane = o.lane; at = o.at; out = o.out; inside = let n = (c.requires.lanes.each c.args.q o.lane o.at).count in let i = c.requires.index in omega arith }
