use Rattle.std.proofs.Common.{◌<◌, length, arith}
use Rattle.running_tests.proofs.Holding.{held_dropped}
use Rattle.running_tests.proofs.held.Receiving.forget.Goals as goal

pub invariant_of-self : goal.invariant_of-self
invariant_of-self c =
    let room : c.args.q < length c.self.inside.kept.items = omega arith in
    held_dropped c.args.q c.self.inside.kept.items c.self.inside.end room c.self.invariant

pub invariant_of-self-then-index-len-2 : goal.invariant_of-self-then-index-len-2
invariant_of-self-then-index-len-2 c =
    let room : c.args.q < length c.self.inside.kept.items = omega arith in
    held_dropped c.args.q c.self.inside.kept.items c.self.inside.end room c.self.invariant
