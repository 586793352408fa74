use Rattle.std.proofs.Common.{subst}
use Rattle.part_geometry.specs.Shape.{IsShape}
use Rattle.part_tables.proofs.tables.Tables.geometry.Goals as goal

pub returns-clause-limits : goal.returns-clause-limits
returns-clause-limits c = subst IsShape c.self.view_is c.self.invariant.shape
