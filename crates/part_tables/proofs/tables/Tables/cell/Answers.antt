use Rattle.std.proofs.Common.{ap, ◌∙◌, arith}
use Rattle.part_geometry.specs.Cells.{cells}
use Rattle.part_geometry.specs.Walk.{cell_at}
use Rattle.part_tables.proofs.TableFacts.{table_len, table_at}
use Rattle.part_tables.proofs.tables.Tables.cell.Goals as goal

pub index-requires : goal.index-requires
index-requires c =
    let size = table_len _ _ _ c.self.invariant.all_cells in let e = ap cells c.self.view_is in
    omega (arith, c.self.inside.cells.ok.0)

pub returns : goal.returns
returns c =
    let e = ap cells c.self.view_is in
    c.index.ensures ∙ table_at _ _ _ _ _ c.self.invariant.all_cells (omega arith) ∙ ap (λ g. cell_at g c.args.c) c.self.view_is
