use Rattle.std.proofs.Common.{ap, arith}
use Rattle.part_geometry.specs.Cells.{cells}
use Rattle.part_geometry.proofs.ReaderFacts.{cells-few}
use Rattle.pair_core.proofs.StateTables.{table_len}
use Rattle.pair_core.proofs.tables.Tables.cells.Goals as goal

pub returns-clause-value : goal.returns-clause-value
returns-clause-value c =
    let size = table_len _ _ _ c.self.invariant.cells_are in let e = ap cells c.self.view_is in
    omega (arith, c.self.inside.cells.ok.0, c.len.ensures)

pub returns-clause-limits : goal.returns-clause-limits
returns-clause-limits c =
    let size = table_len _ _ _ c.self.invariant.cells_are in let few = cells-few _ c.self.invariant.shape in
    let s = c.self.invariant.shape.send_parts in let r = c.self.invariant.shape.recv_parts in
    omega (arith, c.self.inside.cells.ok.0, c.len.ensures)
