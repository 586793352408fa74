use Rattle.part_geometry.proofs.WalkFacts.{end-before, piece-before}
use Rattle.part_geometry.proofs.walk.Position.cell.Goals as goal

pub returns : goal.returns
returns c =
    let b = c.requires.before in
    let ends = end-before _ _ b c.requires.inside in
    let piece = piece-before _ _ b c.requires.inside in
    let starts = b.starts in let send = b.sends.stands in let recv = b.recvs.stands in
    cc
