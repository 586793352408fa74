use Rattle.std.proofs.Common.{◌≡◌, arith}
use Rattle.part_geometry.specs.Pieces.{pieces}
use Rattle.part_tables.specs.Tables.{run_at}
use Rattle.part_tables.proofs.TableFacts.{table_more, table_len}
use Rattle.part_tables.proofs.tables.piece_runs.Goals as goal

pub of-requires-clause-piece : goal.of-requires-clause-piece
of-requires-clause-piece c = let size = table_len _ _ _ c.requires.piece_firsts in let more = c.loop-i-test.true in omega arith

pub loop-i-preserved : goal.loop-i-preserved
loop-i-preserved c = table_more (run_at c.args.geometry) c.loop-i.i _ _ _ c.loop-i.invariant c.of.ensures c.in_ok-push.ensures.items

pub returns : goal.returns
returns c =
    let size = table_len _ _ _ c.requires.piece_firsts in
    let here : c.loop-i.i ≡ pieces c.args.geometry = (let far = c.loop-i-test.false in let near = c.loop-i.auto.i-end in omega arith) in
    rw here at c.loop-i.invariant
