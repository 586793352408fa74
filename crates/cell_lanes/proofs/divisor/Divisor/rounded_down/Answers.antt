use Rattle.std.proofs.Common.{ap, pos}
use Rattle.cell_lanes.proofs.ReciprocalFacts.{divided}
use Rattle.cell_lanes.proofs.divisor.Divisor.rounded_down.Goals as goal

pub overflow_shr-result-2 : goal.overflow_shr-result-2
overflow_shr-result-2 c = c.self.invariant.digits

pub returns : goal.returns
returns c =
    rw (← c.self.view_is) (ap pos (divided c.args.size c.self.inside.value c.self.inside.reciprocal c.self.inside.shift c.self.invariant c.requires))
