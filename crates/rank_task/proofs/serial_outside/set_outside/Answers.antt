use Rattle.std.proofs.Common.{◌∙◌, pos, ◌-ℤ◌}
use Rattle.rank_task.proofs.OutsideFacts.{outside-reads, outside-rest}
use Rattle.rank_task.proofs.serial_outside.set_outside.Goals as goal

pub returns-clause-reads : goal.returns-clause-reads
returns-clause-reads c g top rows cols there own =
    outside-reads g c.args.rule.now top c.args.y c.args.block.now c.put.new.self c.args.rows (pos c.args.at -ℤ pos c.args.rule.now.weights.reach) c.reach-reach.result c.fill_row.new.out c.put.ensures.put
    c.reach-reach.ensures.value c.reach-reach.ensures.limits c.requires.y (c.fill_row.auto.out ∙ c.requires.scratch) rows cols there c.fill_row.ensures.edge c.fill_row.ensures.row own

pub returns-clause-rest : goal.returns-clause-rest
returns-clause-rest c z apart =
    outside-rest c.args.block.now c.put.new.self c.args.y c.reach-reach.result z c.fill_row.new.out c.put.ensures.put c.reach-reach.ensures.value
    c.reach-reach.ensures.limits c.requires.y (c.fill_row.auto.out ∙ c.requires.scratch) apart
