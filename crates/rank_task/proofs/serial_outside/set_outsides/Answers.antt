use Rattle.std.proofs.Common.{◌∙◌, sym, ap, not}
use Rattle.std.proofs.lemmas.Bool.{false≢true}
use Rattle.rank_task.proofs.OutsideFacts.{all-read}
use Rattle.rank_task.proofs.serial_outside.set_outsides.Goals as goal

pub returns-then-is_open-clause-all : goal.returns-then-is_open-clause-all
returns-then-is_open-clause-all c g suit own brought =
    let p = c.args.plan.now in
    all-read p g c.args.rule.now c.args.blocks.now c.set_open.new.blocks c.cols-cols.ensures.limits own brought (c.set_open.ensures.keeps g suit own) (λ plain k less. c.set_open.ensures.set g k suit own less)

pub returns-else-is_open-clause-all : goal.returns-else-is_open-clause-all
returns-else-is_open-clause-all c g suit own brought =
    let p = c.args.plan.now in
    all-read p g c.args.rule.now c.args.blocks.now c.args.blocks.now c.cols-cols.ensures.limits own brought (λ i y reads. reads) (λ plain k less. absurd (false≢true (sym c.if-is_open.false ∙ c.is_open.ensures ∙ ap not plain)))
