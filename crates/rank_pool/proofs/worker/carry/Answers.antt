use Rattle.std.proofs.Common.{◌∷◌, [], ap, ◌∙◌, sym}
use Rattle.rank_pool.proofs.Turns.{puts, turned, works_put}
use Rattle.rank_pool.proofs.worker.carry.Goals as goal

pub try_push_as-requires-clause-rule : goal.try_push_as-requires-clause-rule
try_push_as-requires-clause-rule g c =
    let w = c.loop.invariant.works in
    let t = c.take_turns.ensures in
    let listed = turned g.J.Job.which g.J.Job.belongs _ _ c.loop.ticket c.take_turns.new.self w.home c.loop.invariant.listed t.same.0 t.same.1 t.belongs t.which in
    puts g.J.Job.which g.J.Job.belongs _ _ _ _ w.part (w.holds ∙ ap (λ n. n ∷ []) (sym t.same.0)) listed

pub returns-in-Ok-clause-works : goal.returns-in-Ok-clause-works
returns-in-Ok-clause-works g c = works_put g.J.Job.which g.J.Job.belongs g.J.Job.over _ _ _ _ _ c.loop.invariant.works c.in-Ok.ensures.rule
