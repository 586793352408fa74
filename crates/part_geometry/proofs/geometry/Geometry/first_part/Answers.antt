use Rattle.part_geometry.proofs.PieceFacts.{Touches-range}
use Rattle.part_geometry.proofs.ReaderFacts.{first_part-is, first_part-touched}
use Rattle.part_geometry.proofs.geometry.Geometry.first_part.Goals as goal

pub returns-clause-value : goal.returns-clause-value
returns-clause-value c = first_part-is _ c.args.i _ _ c.send_of.ensures.value c.piece-first.ensures.value

pub returns-clause-touched : goal.returns-clause-touched
returns-clause-touched c =
    let e = first_part-is _ c.args.i _ _ c.send_of.ensures.value c.piece-first.ensures.value in
    rw e (first_part-touched c.args.self.now c.piece-first.ensures.limits c.args.i c.requires)

pub returns-clause-least : goal.returns-clause-least
returns-clause-least c p touches =
    let e = first_part-is _ c.args.i _ _ c.send_of.ensures.value c.piece-first.ensures.value in
    rw e ((Touches-range c.args.self.now c.piece-first.ensures.limits c.args.i p c.requires).0 touches).0
