use Rattle.rank_pool.proofs.Turns.{takes, works_take}
use Rattle.rank_pool.proofs.worker.next_job.Goals as goal

pub try_pop_as-requires-clause-rule : goal.try_pop_as-requires-clause-rule
try_pop_as-requires-clause-rule g c = takes g.J.Job.which g.J.Job.belongs _ _ c.loop.invariant.works.part

pub returns-in-Some-try_pop_as-clause-works : goal.returns-in-Some-try_pop_as-clause-works
returns-in-Some-try_pop_as-clause-works g c = works_take g.J.Job.which g.J.Job.belongs g.J.Job.over _ _ _ _ _ c.loop.invariant.works c.in-Some-try_pop_as.ensures.rule.0
