use Rattle.std.proofs.Common.{ap, ◌∙◌, arith}
use Rattle.part_geometry.specs.Pieces.{pieces, first_part}
use Rattle.part_tables.proofs.TableFacts.{table_len, table_at}
use Rattle.part_tables.proofs.tables.Tables.first_part.Goals as goal

pub index-requires : goal.index-requires
index-requires c =
    let size = table_len _ _ _ c.self.invariant.all_runs in let e = ap pieces c.self.view_is in
    omega (arith, c.self.inside.runs.ok.0)

pub returns : goal.returns
returns c =
    let e = ap pieces c.self.view_is in
    ap (λ run. run.first_part) (c.index.ensures ∙ table_at _ _ _ _ _ c.self.invariant.all_runs (omega arith)) ∙ ap (λ g. first_part g c.args.i) c.self.view_is
