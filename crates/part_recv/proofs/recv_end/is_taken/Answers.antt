use Rattle.std.proofs.Common.{refl}
use Rattle.part_recv.proofs.Testing.{lane_is}
use Rattle.part_recv.proofs.recv_end.is_taken.Goals as goal

pub returns : goal.returns
returns c = (_, lane_is c.args.lanes.now c.args.q _ c.requires, refl)
