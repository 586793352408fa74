use Rattle.part_geometry.specs.Cells.{cells}
use Rattle.part_tables.specs.Tables.{part_at}
use Rattle.part_tables.proofs.TableFacts.{SoFar}
use Rattle.part_tables.proofs.tables.first_cells.Given as goal

abbrev pub invariant-loop-c : goal.invariant-loop-c
invariant-loop-c l = SoFar (part_at l.row l.fn.geometry) (cells l.fn.geometry) l.c l.firsts.items
