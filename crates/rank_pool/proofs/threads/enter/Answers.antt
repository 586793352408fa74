use Rattle.std.proofs.Common.{length, ap, ◌∙◌, sym, subst}
use Rattle.rank_pool.proofs.Turns.{enters}
use Rattle.rank_pool.proofs.threads.enter.Goals as goal

pub try_push_as-requires-clause-rule : goal.try_push_as-requires-clause-rule
try_push_as-requires-clause-rule g c =
    let i = c.loop.invariant in
    let r = c.requires in
    enters g.J.Job.which g.J.Job.belongs _ _ _ c.loop.ticket (ap (λ v. v.parts) i.known ∙ r.every)
    (ap (λ t. t.number) i.ticket ∙ r.next ∙ sym (ap (λ v. length v.entered) i.known)) (subst (λ t. g.J.Job.belongs t.job t.home.value) (sym i.ticket) r.belongs)
