use Rattle.std.proofs.Common.{ap, arith}
use Rattle.part_geometry.specs.Cells.{cells}
use Rattle.part_tables.proofs.TableFacts.{table_len, counted}
use Rattle.part_tables.proofs.tables.Tables.cells.Goals as goal

pub returns-clause-value : goal.returns-clause-value
returns-clause-value c =
    let size = table_len _ _ _ c.self.invariant.all_cells in let e = ap cells c.self.view_is in
    omega (arith, c.self.inside.cells.ok.0, c.len.ensures)

pub returns-clause-limits : goal.returns-clause-limits
returns-clause-limits c =
    let size = table_len _ _ _ c.self.invariant.all_cells in
    let h = counted _ c.self.invariant.shape in let some = h.some_cells in let few = h.few in
    omega (arith, c.self.inside.cells.ok.0, c.len.ensures)
