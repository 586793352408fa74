use Rattle.std.proofs.Common.{◌∙◌, ap, length, arith}
use Rattle.std.proofs.lemmas.Nat.{mul-le}
use Rattle.rank_task.proofs.StepFacts.{own-read}
use Rattle.rank_task.proofs.serial_steps.fill_halos.Goals as goal

pub set_outsides-requires-clause-row : goal.set_outsides-requires-clause-row
set_outsides-requires-clause-row c =
    let p = c.args.plan.now in
    let reach = c.reach-reach.ensures.limits.reach in
    let m = mul-le 1 p.cols p.reach p.cols reach.0 (omega arith) in
    let long = ap length c.deref_mut.ensures.value ∙ c.pass_edges.ensures.scratch.carried in
    omega (arith, m, long)

pub returns-clause-all : goal.returns-clause-all
returns-clause-all c g suit holds =
    let p = c.args.plan.now in let rule = c.args.rule.now in
    let own = own-read p g rule c.args.blocks.now c.reach-reach.ensures.limits c.requires.blocks suit holds in
    c.set_outsides.ensures.all g suit (c.pass_edges.ensures.own g rule suit own) (c.pass_edges.ensures.brought g rule suit own)
