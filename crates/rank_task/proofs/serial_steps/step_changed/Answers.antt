use Rattle.std.proofs.Common.{◌∙◌}
use Rattle.cell_lanes.proofs.ChangeFacts.{change-back}
use Rattle.rank_task.proofs.serial_steps.step_changed.Goals as goal

pub returns-clause-next : goal.returns-clause-next
returns-clause-next c g suit holds = c.step_blocks_changed.ensures.next g suit (c.fill_halos.ensures.all g suit holds)

pub returns-clause-change : goal.returns-clause-change
returns-clause-change c g suit holds =
    change-back c.step_blocks_changed.result c.step_blocks_changed.ensures.range
    ∙ c.step_blocks_changed.ensures.change g suit (c.fill_halos.ensures.all g suit holds)
