use Rattle.part_geometry.proofs.PieceFacts.{piece_of-holds}
use Rattle.part_geometry.proofs.geometry.Geometry.piece_of.Goals as goal

pub returns-clause-holds : goal.returns-clause-holds
returns-clause-holds c = rw c.whole_cell.ensures.value (piece_of-holds _ _ c.requires)
