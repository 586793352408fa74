use Rattle.std.proofs.Common.{sym}
use Rattle.init_match.proofs.PairFacts.{partner_fits}
use Rattle.init_match.proofs.world.World.completed.Goals as goal

pub geometry_of-requires-clause-recv : goal.geometry_of-requires-clause-recv
geometry_of-requires-clause-recv c = partner_fits c.self.inside c.args.call c.in-Some.other c.in-Some.other_slot c.self.invariant (sym c.in-Some.ensures)

pub geometry_of-requires-in-RecvSide-clause-send : goal.geometry_of-requires-in-RecvSide-clause-send
geometry_of-requires-in-RecvSide-clause-send c = partner_fits c.self.inside c.args.call c.in-Some.other c.in-Some.other_slot c.self.invariant (sym c.in-Some.ensures)
