use Rattle.std.proofs.Common.{ap, ◌∙◌, arith}
use Rattle.part_geometry.specs.Pieces.{pieces, need_count}
use Rattle.pair_core.proofs.StateTables.{table_len, table_at}
use Rattle.pair_core.proofs.tables.Tables.part_count.Goals as goal

pub index-requires : goal.index-requires
index-requires c =
    let size = table_len _ _ _ c.self.invariant.counts_are in let e = ap pieces c.self.view_is in
    omega (arith, c.self.inside.counts.ok.0)

pub returns : goal.returns
returns c =
    let e = ap pieces c.self.view_is in
    c.index.ensures ∙ table_at _ _ _ _ _ c.self.invariant.counts_are (omega arith) ∙ ap (λ g. need_count g c.args.i) c.self.view_is
