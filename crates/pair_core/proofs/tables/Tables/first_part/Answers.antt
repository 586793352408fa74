use Rattle.std.proofs.Common.{ap, ◌∙◌, arith}
use Rattle.part_geometry.specs.Pieces.{pieces, first_part}
use Rattle.pair_core.proofs.StateTables.{table_len, table_at}
use Rattle.pair_core.proofs.tables.Tables.first_part.Goals as goal

pub index-requires : goal.index-requires
index-requires c =
    let size = table_len _ _ _ c.self.invariant.firsts_are in let e = ap pieces c.self.view_is in
    omega (arith, c.self.inside.firsts.ok.0)

pub returns : goal.returns
returns c =
    let e = ap pieces c.self.view_is in
    c.index.ensures ∙ table_at _ _ _ _ _ c.self.invariant.firsts_are (omega arith) ∙ ap (λ g. first_part g c.args.i) c.self.view_is
