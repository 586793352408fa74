use Rattle.std.proofs.Common.{refl}
use Rattle.init_match.proofs.PairFacts.{within, world_first}
use Rattle.init_match.proofs.world.World.new.Goals as goal

pub invariant_of-result : goal.invariant_of-result
invariant_of-result c =
    world_first _ (within _ _ _ _ c.is_within-2.ensures c.if-not-is_within-2.false) (within _ _ _ _ c.is_within-3.ensures c.if-not-is_within-3.false) refl c.new.ensures c.new-2.ensures.items
