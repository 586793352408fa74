use Rattle.std.proofs.Common.{arith}
use Rattle.rank_pool.proofs.Turns.{notes, room, short, works_note}
use Rattle.rank_pool.proofs.worker.finish.Goals as goal

pub learn_as-requires-clause-rule : goal.learn_as-requires-clause-rule
learn_as-requires-clause-rule g c = room g.J.Job.which g.J.Job.belongs _ _ c.requires.works.part

pub another-requires-clause-rule : goal.another-requires-clause-rule
another-requires-clause-rule g c = notes g.J.Job.which g.J.Job.belongs _ _

pub returns-clause-works : goal.returns-clause-works
returns-clause-works g c =
    works_note g.J.Job.which g.J.Job.belongs g.J.Job.over _ _ _ _ _ _ c.args.ticket c.requires.works c.learn_as.ensures.queue.1 c.another.ensures.rule.0 c.chain.ensures c.requires.listed c.requires.over

pub chain-requires-clause-short : goal.chain-requires-clause-short
chain-requires-clause-short g c =
    let few = short g.J.Job.which g.J.Job.belongs g.J.Job.over _ _ _ _ c.requires.works c.learn_as.ensures.rule.1 in
    omega arith
