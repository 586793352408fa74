use Rattle.rank_task.proofs.serial_steps.step.Goals as goal

pub returns-clause-next : goal.returns-clause-next
returns-clause-next c g suit holds = c.step_blocks.ensures.next g suit (c.fill_halos.ensures.all g suit holds)
