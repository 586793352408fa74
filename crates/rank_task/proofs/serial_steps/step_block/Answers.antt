use Rattle.std.proofs.Common.{arith}
use Rattle.rank_task.proofs.StepFacts.{holds-all, inside-same}
use Rattle.rank_task.proofs.serial_steps.step_block.Goals as goal

pub returns-clause-own : goal.returns-clause-own
returns-clause-own c g top cols inside holds =
    let e = c.set_ends.ensures in
    c.step.ensures.own g c.args.rule.now top 0 c.requires.weights c.requires.divisor
    (holds-all g c.args.rule.now top c.args.block.now c.set_ends.new.self e.size (λ y less. e.ends g top y cols (omega arith) (omega arith) (holds y less)))
    (inside-same g top c.args.block.now c.set_ends.new.self e.size inside)
