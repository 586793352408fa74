use Rattle.part_recv.proofs.Beginning.{first_rests}
use Rattle.part_recv.proofs.laws.first_laws.Goals as goal

pub returns : goal.returns
returns c = first_rests
