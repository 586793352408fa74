use Rattle.std.proofs.Common.{take}
use Rattle.halo_plan.specs.Edges.{edges}
use Rattle.halo_plan.specs.Worlds.{HasCalls}
use Rattle.halo_plan.proofs.plan.HaloPlan.world.Given as goal

-- the first edges have their calls
abbrev pub invariant-loop-e : goal.invariant-loop-e
invariant-loop-e l = HasCalls l.self (take l.e (edges l.self)) l.world
