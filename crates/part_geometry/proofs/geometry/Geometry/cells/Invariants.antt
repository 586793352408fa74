use Rattle.std.proofs.Common.{◌-◌}
use Rattle.part_geometry.specs.Cells.{cells}
use Rattle.part_geometry.proofs.ReaderFacts.{Counted}
use Rattle.part_geometry.proofs.geometry.Geometry.cells.Given as goal

abbrev pub invariant-loop-walk : goal.invariant-loop-walk
invariant-loop-walk l = Counted l.self l.walk l.count

abbrev pub decreases-loop-walk : goal.decreases-loop-walk
decreases-loop-walk l = cells l.self - l.walk.place
