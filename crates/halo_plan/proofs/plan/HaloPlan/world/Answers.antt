use Rattle.std.proofs.Common.{subst, arith}
use Rattle.std.proofs.lemmas.List.{take_all}
use Rattle.halo_plan.specs.Edges.{edges}
use Rattle.halo_plan.specs.Worlds.{HasCalls}
use Rattle.halo_plan.proofs.WorldFacts.{world-of}
use Rattle.halo_plan.proofs.plan.HaloPlan.world.Goals as goal

pub loop-e-preserved : goal.loop-e-preserved
loop-e-preserved c = c.in_ok-join.ensures

pub returns : goal.returns
returns c =
    let p = c.args.self.now in
    record { world = world-of p c.loop-e.world (subst (λ es. HasCalls p es c.loop-e.world) (take_all c.loop-e.e (edges p) (omega arith)) c.loop-e.invariant) }
