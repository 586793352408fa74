use Rattle.std.proofs.Common.{◌∙◌, pos, arith}
use Rattle.stencil_def.specs.Step.{next_plane}
use Rattle.cell_lanes.specs.Change.{change_within}
use Rattle.cell_lanes.proofs.ChangeFacts.{change-back}
use Rattle.rank_task.proofs.StepFacts.{holds-all, inside-same}
use Rattle.rank_task.proofs.serial_steps.step_block_changed.Goals as goal

pub returns-clause-own : goal.returns-clause-own
returns-clause-own c g top cols inside holds =
    let e = c.set_ends.ensures in
    c.step_changed.ensures.own g c.args.rule.now top 0 c.requires.weights c.requires.divisor
    (holds-all g c.args.rule.now top c.args.block.now c.set_ends.new.self e.size (λ y less. e.ends g top y cols (omega arith) (omega arith) (holds y less)))
    (inside-same g top c.args.block.now c.set_ends.new.self e.size inside)

pub returns-clause-change : goal.returns-clause-change
returns-clause-change c g top cols inside holds =
    let e = c.set_ends.ensures in
    change-back c.step_changed.result c.step_changed.ensures.range
    ∙ c.step_changed.ensures.change g c.args.rule.now top 0 c.requires.weights c.requires.divisor
    (holds-all g c.args.rule.now top c.args.block.now c.set_ends.new.self e.size (λ y less. e.ends g top y cols (omega arith) (omega arith) (holds y less)))
    (inside-same g top c.args.block.now c.set_ends.new.self e.size inside)
    ∙ (λ i. pos (change_within g (next_plane g c.args.rule.now) top (e.size.rows i) 0 (e.size.cols i)))
