use Rattle.std.proofs.Common.{subst}
use Rattle.grid_tiles.specs.Blocks.{IsRowSet}
use Rattle.grid_tiles.proofs.CellFacts.{row-set}
use Rattle.grid_tiles.proofs.serial_cells.set_row.Goals as goal

pub returns-clause-row : goal.returns-clause-row
returns-clause-row c =
    let b = c.args.block.now in
    subst (λ s. IsRowSet c.args.rule.now s c.args.y b c.put.new.self) c.source.ensures.value
    (row-set c.args.rule.now c.source.result c.args.y c.row_or_edge.new.out b c.put.new.self c.reach.ensures.limits c.requires.y
    c.row_or_edge.ensures.length c.row_or_edge.ensures.edge c.row_or_edge.ensures.own c.put.ensures.put c.put.ensures.limits)
