use Rattle.std.proofs.Common.{◌≡◌, ap, ◌∙◌, arith}
use Rattle.part_geometry.specs.Pieces.{pieces}
use Rattle.part_tables.specs.Parts.{first_shared, after_shared}
use Rattle.part_tables.specs.Tables.{run_at}
use Rattle.part_tables.proofs.TableFacts.{table_len, table_at}
use Rattle.part_tables.proofs.tables.Tables.shared.Goals as goal

pub index-run-requires : goal.index-run-requires
index-run-requires c =
    let size = table_len _ _ _ c.self.invariant.all_runs in let e = ap pieces c.self.view_is in
    let piece = c.requires.piece in omega (arith, c.self.inside.runs.ok.0)

pub returns-clause-value : goal.returns-clause-value
returns-clause-value c =
    let e = ap pieces c.self.view_is in
    let piece = c.requires.piece in
    let run = c.index-run.ensures ∙ table_at _ _ _ _ _ c.self.invariant.all_runs (omega arith) ∙ ap (λ g. run_at g c.args.i) c.self.view_is in
    let run_first = ap (λ x. x.first) run in
    let run_after = ap (λ x. x.after) run in
    let part_first = ap (λ x. x.0) c.sent-first.ensures.value in
    let part_after = ap (λ x. x.1) c.sent-first.ensures.value in
    let first : c.max.result ≡ first_shared c.args.self.now c.args.p c.args.i = omega (arith, c.max.ensures) in
    let after : c.min.result ≡ after_shared c.args.self.now c.args.p c.args.i = omega (arith, c.min.ensures) in
    λ k. (first k, after k)
