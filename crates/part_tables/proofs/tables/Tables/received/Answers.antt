use Rattle.std.proofs.Common.{◌+◌, ap, subst, arith}
use Rattle.part_geometry.specs.Shape.{IsShape}
use Rattle.part_tables.specs.Parts.{first_received}
use Rattle.part_tables.proofs.Facts.{first_received-rises, first_received-le}
use Rattle.part_tables.proofs.TableFacts.{table_len, read_two}
use Rattle.part_tables.proofs.tables.Tables.received.Goals as goal

pub index-requires : goal.index-requires
index-requires c =
    let size = table_len _ _ _ c.self.invariant.received_firsts in let e = ap (λ g. g.recv_parts) c.self.view_is in
    omega (arith, c.self.inside.received.ok.0)

pub index-requires-2 : goal.index-requires-2
index-requires-2 c =
    let size = table_len _ _ _ c.self.invariant.received_firsts in let e = ap (λ g. g.recv_parts) c.self.view_is in
    omega (arith, c.self.inside.received.ok.0)

pub returns-clause-value : goal.returns-clause-value
unfolding first_received
returns-clause-value c =
    let e = ap (λ g. g.recv_parts) c.self.view_is in
    let h = read_two first_received _ _ _ c.args.q _ _ _ c.self.invariant.received_firsts c.self.view_is (omega arith) c.index.ensures c.index-2.ensures in
    λ k. (h.0 k, h.1 k)

pub returns-clause-inside : goal.returns-clause-inside
unfolding first_received
returns-clause-inside c =
    let v = subst IsShape c.self.view_is c.self.invariant.shape in
    let e = ap (λ g. g.recv_parts) c.self.view_is in
    let h = read_two first_received _ _ _ c.args.q _ _ _ c.self.invariant.received_firsts c.self.view_is (omega arith) c.index.ensures c.index-2.ensures in
    let first = h.0 in let after = h.1 in
    let rise = first_received-rises _ v c.args.q c.requires in let few = first_received-le _ v (c.args.q + 1) in
    (omega arith, omega arith)
