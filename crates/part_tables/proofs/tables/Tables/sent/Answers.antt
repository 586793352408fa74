use Rattle.std.proofs.Common.{◌+◌, ap, subst, arith}
use Rattle.part_geometry.specs.Shape.{IsShape}
use Rattle.part_tables.specs.Parts.{first_sent}
use Rattle.part_tables.proofs.Facts.{first_sent-rises, first_sent-le}
use Rattle.part_tables.proofs.TableFacts.{table_len, read_two}
use Rattle.part_tables.proofs.tables.Tables.sent.Goals as goal

pub index-requires : goal.index-requires
index-requires c =
    let size = table_len _ _ _ c.self.invariant.sent_firsts in let e = ap (λ g. g.send_parts) c.self.view_is in
    omega (arith, c.self.inside.sent.ok.0)

pub index-requires-2 : goal.index-requires-2
index-requires-2 c =
    let size = table_len _ _ _ c.self.invariant.sent_firsts in let e = ap (λ g. g.send_parts) c.self.view_is in
    omega (arith, c.self.inside.sent.ok.0)

pub returns-clause-value : goal.returns-clause-value
unfolding first_sent
returns-clause-value c =
    let e = ap (λ g. g.send_parts) c.self.view_is in
    let h = read_two first_sent _ _ _ c.args.p _ _ _ c.self.invariant.sent_firsts c.self.view_is (omega arith) c.index.ensures c.index-2.ensures in
    λ k. (h.0 k, h.1 k)

pub returns-clause-inside : goal.returns-clause-inside
unfolding first_sent
returns-clause-inside c =
    let v = subst IsShape c.self.view_is c.self.invariant.shape in
    let e = ap (λ g. g.send_parts) c.self.view_is in
    let h = read_two first_sent _ _ _ c.args.p _ _ _ c.self.invariant.sent_firsts c.self.view_is (omega arith) c.index.ensures c.index-2.ensures in
    let first = h.0 in let after = h.1 in
    let rise = first_sent-rises _ v c.args.p c.requires in let few = first_sent-le _ v (c.args.p + 1) in
    (omega arith, omega arith)
