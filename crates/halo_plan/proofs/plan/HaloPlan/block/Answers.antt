use Rattle.std.proofs.Common.{subst, arith}
use Rattle.halo_plan.specs.Plan.{IsPlan}
use Rattle.halo_plan.proofs.Planning.{block-enough, block-some}
use Rattle.halo_plan.proofs.plan.HaloPlan.block.Goals as goal

pub returns-clause-inside : goal.returns-clause-inside
returns-clause-inside c =
    let h = block-some c.args.self.now c.args.i (subst IsPlan c.self.view_is c.self.invariant.limits) in (omega arith, omega arith)

pub returns-clause-enough : goal.returns-clause-enough
returns-clause-enough c two =
    let h = block-enough c.args.self.now c.args.i (subst IsPlan c.self.view_is c.self.invariant.limits) two in omega arith
