use Rattle.std.proofs.Common.{◌≡◌, length, sym, ap, ◌∙◌, subst, arith}
use Rattle.crossbeam_queue.specs.Passes.{view}
use Rattle.rank_pool.specs.Jobs.{AllOver, IsBack, IsIn}
use Rattle.rank_pool.proofs.Turns.{whole}
use Rattle.rank_pool.proofs.Filling.{all_there}
use Rattle.rank_pool.proofs.order.in_order.Goals as goal

pub learn_as-requires-clause-rule : goal.learn_as-requires-clause-rule
learn_as-requires-clause-rule g c = whole g.J.Job.which g.J.Job.belongs _ _ c.requires.every

pub lay-row-requires-clause-each : goal.lay-row-requires-clause-each
lay-row-requires-clause-each g c κs within = subst (λ b. AllOver g.J.Job.which g.J.Job.belongs g.J.Job.over b c.args.collector.finished) (ap (λ v. v.entered) (sym c.learn_as.ensures.queue.1)) c.requires.works.each

pub take-requires-clause-slots : goal.take-requires-clause-slots
take-requires-clause-slots g c κs within k lt =
    let w = c.requires.works in
    let entered : (view c.learn_as.new.pass).entered ≡ (view c.args.collector.pass).entered = ap (λ v. v.entered) c.learn_as.ensures.queue.1 in
    let n : length (view c.learn_as.new.pass).entered ≡ length (view c.args.collector.pass).entered = ap length entered in
    let len : length c.lay-row.result.items ≡ length (view c.learn_as.new.pass).entered = c.lay-row.ensures.len in
    let there = all_there g.J.Job.which g.J.Job.belongs g.J.Job.over c.learn_as.ensures.rule.0 c.args.collector.finished (view c.args.collector.pass) c.learn_as.ensures.rule.1 w.holds w.done c.requires.all k (omega arith) in
    subst (λ m. IsIn g.J.Job.which g.J.Job.belongs g.J.Job.over c.args.shared.now (view c.learn_as.new.pass).entered c.lay-row.result.items m) there.3 (c.lay-row.ensures.laid there.0 there.1 there.2)

pub returns-clause-len : goal.returns-clause-len
returns-clause-len g c = c.take.ensures.len ∙ c.lay-row.ensures.len ∙ ap (λ v. length v.entered) c.learn_as.ensures.queue.1

pub returns-clause-back : goal.returns-clause-back
returns-clause-back g c k j e = subst (λ b. IsBack g.J.Job.which g.J.Job.belongs g.J.Job.over c.args.shared.now b k j) (ap (λ v. v.entered) c.learn_as.ensures.queue.1) (c.take.ensures.back k j e)
