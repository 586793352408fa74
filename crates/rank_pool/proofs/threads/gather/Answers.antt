use Rattle.std.proofs.Common.{◌≡◌, ◌+◌, ◌<◌, ◌++◌, ◌∷◌, [], length, ap, ◌∙◌, sym, refl, subst, append_assoc, arith, rules, length-append}
use Rattle.std.specs.Vec.Iter.{into_iter_items}
use Rattle.crossbeam_queue.specs.Passes.{view, IsPassOf}
use Rattle.rank_pool.specs.Jobs.{Serves, Works}
use Rattle.rank_pool.proofs.Turns.{gathers, room, works_gather, short, all_at}
use Rattle.rank_pool.proofs.threads.gather.Goals as goal

pub absorb-requires-clause-rule : goal.absorb-requires-clause-rule
absorb-requires-clause-rule g c = gathers g.J.Job.which g.J.Job.belongs _ _ _ _ c.loop-worker.invariant.works.part

pub learn_as-requires-clause-rule : goal.learn_as-requires-clause-rule
learn_as-requires-clause-rule g c =
    let part = c.loop-worker.invariant.works.part in
    room g.J.Job.which g.J.Job.belongs _ _ (subst (λ v. 0 < v.parts) (sym c.absorb.ensures.rule) (omega arith))

pub unreachable-requires : goal.unreachable-requires
unreachable-requires g c =
    let i = c.loop-worker.invariant in
    let steps : into_iter_items c.loop-worker.worker-iterator ≡ c.in-Some.worker ∷ into_iter_items c.next.new.self = c.in-Some.ensures.steps.0 in
    let all : c.loop-worker.yielded ++ (c.in-Some.worker ∷ into_iter_items c.next.new.self) ≡ c.args.workers.items =
    ap (λ l. c.loop-worker.yielded ++ l) (sym steps) ∙ i.rest ∙ c.into_iter-worker-iterator.ensures.into_iter_gives.0 in
    let it = all_at (λ w. IsPassOf c.args.queue.now w.pass × Serves g.J.Job.which g.J.Job.belongs g.J.Job.over c.args.shared.now (view c.args.collector.now.pass).entered (view w.pass) w.finished)
    c.loop-worker.yielded (into_iter_items c.next.new.self) c.args.workers.items c.in-Some.worker all c.requires.workers in
    let works = works_gather g.J.Job.which g.J.Job.belongs g.J.Job.over c.args.shared.now (view c.loop-worker.collector.pass) (view c.in-Some.worker.pass) (view c.absorb.new.pass) c.loop-worker.collector.finished c.in-Some.worker.finished
    (c.loop-worker.collector.finished ++ c.in-Some.worker.finished) i.works it.1.works (it.1.same ∙ sym i.entered) c.absorb.ensures.rule refl in
    let few = short g.J.Job.which g.J.Job.belongs g.J.Job.over c.args.shared.now (view c.absorb.new.pass) (c.loop-worker.collector.finished ++ c.in-Some.worker.finished) [] works c.learn_as.ensures.rule.1 in
    let n = length-append c.loop-worker.collector.finished c.in-Some.worker.finished in
    let ok = c.in-Err.ensures.succeeds (omega arith) in
    search rules

pub loop-worker-preserved : goal.loop-worker-preserved
loop-worker-preserved g c =
    let i = c.loop-worker.invariant in
    let steps : into_iter_items c.loop-worker.worker-iterator ≡ c.in-Some.worker ∷ into_iter_items c.next.new.self = c.in-Some.ensures.steps.0 in
    let all : c.loop-worker.yielded ++ (c.in-Some.worker ∷ into_iter_items c.next.new.self) ≡ c.args.workers.items =
    ap (λ l. c.loop-worker.yielded ++ l) (sym steps) ∙ i.rest ∙ c.into_iter-worker-iterator.ensures.into_iter_gives.0 in
    let it = all_at (λ w. IsPassOf c.args.queue.now w.pass × Serves g.J.Job.which g.J.Job.belongs g.J.Job.over c.args.shared.now (view c.args.collector.now.pass).entered (view w.pass) w.finished)
    c.loop-worker.yielded (into_iter_items c.next.new.self) c.args.workers.items c.in-Some.worker all c.requires.workers in
    let longer = length-append c.loop-worker.yielded (c.in-Some.worker ∷ []) in
    let one : (view c.in-Some.worker.pass).parts ≡ 1 = it.1.one in
    let were : (view c.loop-worker.collector.pass).parts ≡ (view c.args.collector.now.pass).parts + length c.loop-worker.yielded = i.parts in
    let counted : (view c.loop-worker.collector.pass).parts + (view c.in-Some.worker.pass).parts ≡ (view c.args.collector.now.pass).parts + length (c.loop-worker.yielded ++ c.in-Some.worker ∷ []) = omega arith in
    record {
      queue = search rules;
      works = subst (λ v. Works g.J.Job.which g.J.Job.belongs g.J.Job.over c.args.shared.now v c.append.new.self []) (sym c.learn_as.ensures.queue.1)
          (works_gather g.J.Job.which g.J.Job.belongs g.J.Job.over c.args.shared.now (view c.loop-worker.collector.pass) (view c.in-Some.worker.pass) (view c.absorb.new.pass) c.loop-worker.collector.finished c.in-Some.worker.finished
          c.append.new.self i.works it.1.works (it.1.same ∙ sym i.entered) c.absorb.ensures.rule c.in-Ok.ensures.items);
      parts = ap (λ v. v.parts) (c.learn_as.ensures.queue.1 ∙ c.absorb.ensures.rule) ∙ counted;
      entered = ap (λ v. v.entered) (c.learn_as.ensures.queue.1 ∙ c.absorb.ensures.rule) ∙ i.entered;
      rest = append_assoc c.loop-worker.yielded (c.in-Some.worker ∷ []) _ ∙ ap (λ l. c.loop-worker.yielded ++ l) (sym steps) ∙ i.rest;
    }
