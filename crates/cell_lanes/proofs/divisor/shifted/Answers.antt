use Rattle.std.proofs.Common.{◌<◌, arith}
use Rattle.cell_lanes.proofs.ReciprocalFacts.{shift-small}
use Rattle.cell_lanes.proofs.divisor.shifted.Goals as goal

pub overflow_shr-unsigned_abs : goal.overflow_shr-unsigned_abs
overflow_shr-unsigned_abs c = let few : c.args.shift < 20 = shift-small c.args.shift c.requires.shift in omega arith
