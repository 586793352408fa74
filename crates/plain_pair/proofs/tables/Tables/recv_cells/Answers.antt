use Rattle.std.proofs.Common.{ap, subst, arith}
use Rattle.std.proofs.lemmas.List.{get_or_read}
use Rattle.plain_pair.specs.Tables.{AreCellsOf}
use Rattle.plain_pair.specs.declared.tables.Row.TheVariants.{Recv}
use Rattle.plain_pair.proofs.tables.Tables.recv_cells.Goals as goal

pub index-requires : goal.index-requires
index-requires c =
    let size = c.self.invariant.recvs_are.size in let e = ap (λ g. g.recv_parts) c.self.view_is in
    omega (arith, c.self.inside.recvs.ok.0)

pub index-requires-2 : goal.index-requires-2
index-requires-2 c =
    let size = c.self.invariant.recvs_are.size in let e = ap (λ g. g.recv_parts) c.self.view_is in
    omega (arith, c.self.inside.recvs.ok.0)

pub returns : goal.returns
returns c =
    let size = c.self.invariant.recvs_are.size in let e = ap (λ g. g.recv_parts) c.self.view_is in
    let first = get_or_read c.self.inside.recvs.items _ _ (omega arith) c.index.ensures 0 in
    let end = get_or_read c.self.inside.recvs.items _ _ (omega arith) c.index-2.ensures 0 in
    subst (λ g. AreCellsOf Recv g c.args.q c.index.result.now c.index-2.result.now) c.self.view_is
    (rw (first, end) (c.self.invariant.recvs_are.each c.args.q (omega arith)))
