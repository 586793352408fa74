use Rattle.part_geometry.proofs.ReaderFacts.{Counted}
use Rattle.part_geometry.proofs.geometry.Geometry.whole_cell.Given as goal

abbrev pub invariant-loop : goal.invariant-loop
invariant-loop l = Counted l.self l.walk l.counter
