use Rattle.part_recv.proofs.Pieces.{the_pieces}
use Rattle.part_recv.proofs.laws.piece_laws.Goals as goal

pub returns : goal.returns
returns c = the_pieces
