use Rattle.std.proofs.Common.{◌<◌, length, arith}
use Rattle.running_tests.proofs.Holding.{held_rests, held_took, refused_rests}
use Rattle.running_tests.proofs.held.Receiving.take.Goals as goal

pub invariant_of-self : goal.invariant_of-self
invariant_of-self g c =
    let room : c.args.q < length c.self.inside.kept.items = omega arith in
    held_took _ c.args.q c.in-Ok.arrival c.self.inside.kept.items c.self.inside.end c.take.new.self
    c.in-Ok.ensures.answer c.in-Ok.ensures.out room c.self.invariant

pub invariant_of-self-in-Err : goal.invariant_of-self-in-Err
invariant_of-self-in-Err g c =
    held_rests c.self.inside.kept.items c.self.inside.end c.take.new.self
    (refused_rests c.args.q c.in-Err.refusal c.self.inside.end c.take.new.self c.in-Err.ensures.answer)
    c.self.invariant
