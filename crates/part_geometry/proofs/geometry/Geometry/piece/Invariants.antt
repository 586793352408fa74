use Rattle.std.proofs.Common.{◌-◌}
use Rattle.part_geometry.specs.Cells.{cells}
use Rattle.part_geometry.proofs.ReaderFacts.{Split}
use Rattle.part_geometry.proofs.geometry.Geometry.piece.Given as goal

abbrev pub invariant-loop-cell : goal.invariant-loop-cell
invariant-loop-cell l = Split l.self l.i l.walk l.first l.end

abbrev pub decreases-loop-cell : goal.decreases-loop-cell
decreases-loop-cell l = cells l.self - l.walk.place
