use Rattle.std.proofs.Common.{◌∙◌, sym, to_z, of_z, w64, arith}
use Rattle.cell_lanes.proofs.LaneFacts.{back}
use Rattle.grid_tiles.proofs.CellFacts.{column-next}
use Rattle.grid_tiles.proofs.serial_cells.set_column.Goals as goal

pub loop-row-preserved : goal.loop-row-preserved
loop-row-preserved c =
    let source = c.source-source.ensures.value in
    let value = c.cell_or_edge-value in
    let same = back value.result (omega arith) in
    let less = c.loop-row-test.true in let end = c.rows-row-end.ensures.value in
    column-next c.args.rule.now c.source-source.result c.args.x c.loop-row.row c.reach-reach.result (to_z w64 (of_z w64 value.result)) c.args.block.now c.loop-row.block c.put.new.self c.loop-row.invariant
    c.requires.x (omega arith) (λ e. same ∙ value.ensures.edge e) (λ col e. same ∙ value.ensures.own col e) (λ col is. c.requires.own col (sym source ∙ is))
    c.reach-reach.ensures.value c.put.ensures.put c.put.ensures.limits
