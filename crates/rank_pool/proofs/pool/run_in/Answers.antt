use Rattle.std.proofs.Common.{◌≡◌, ◌<◌, ◌-◌, ◌^◌, [], length, map, All, sym, ap, ◌∙◌, subst, arith, drop, refl}
use Rattle.std.proofs.lemmas.List.{length-map, take_at}
use Rattle.crossbeam_queue.specs.Passes.{view, IsPassOf}
use Rattle.rank_pool.specs.Places.{every, knows}
use Rattle.rank_pool.specs.Jobs.{IsHome, IsBack, Serves, Works}
use Rattle.rank_pool.proofs.Filling.{entered_few, entered_home, works_first, in_turn, all_over, all_home}
use Rattle.rank_pool.proofs.pool.run_in.Goals as goal

pub deal-crew-requires-clause-few : goal.deal-crew-requires-clause-few
deal-crew-requires-clause-few g c κs within =
    entered_few g.J.Job.which g.J.Job.belongs g.J.Job.over c.args.shared.now (λ x. g.J.Job.which x.job) c.args.row _ (ap (λ v. v.entered) c.enter_all.ensures.view) c.requires.few.2

pub deal-crew-requires-clause-home : goal.deal-crew-requires-clause-home
deal-crew-requires-clause-home g c κs within =
    subst (λ b. IsHome g.J.Job.which g.J.Job.belongs c.args.shared.now b) (ap (λ v. v.entered) (sym c.enter_all.ensures.view))
    (entered_home g.J.Job.which g.J.Job.belongs g.J.Job.over c.args.shared.now (λ x. g.J.Job.which x.job) c.args.row)

pub run_workers-requires-clause-workers : goal.run_workers-requires-clause-workers
run_workers-requires-clause-workers g c κs within =
    subst (λ l. All (λ w. IsPassOf c.args.rooms.queue w.pass × Works g.J.Job.which g.J.Job.belongs g.J.Job.over c.args.shared.now (view w.pass) w.finished []) l) (sym c.as_mut_slice.ensures.value)
    (λ k d lt. let s = c.deal-crew.ensures.workers k d lt in (s.0, s.1.works))

pub gather-requires-clause-works : goal.gather-requires-clause-works
gather-requires-clause-works g c κs within =
    let known : view c.deal-crew.new.pass ≡ knows (every - c.args.workers) (map (λ x. (g.J.Job.which x.job, c.args.shared.now)) c.args.row) [] [] =
    c.deal-crew.ensures.view ∙ ap (λ v. knows (v.parts - c.args.workers) v.entered v.held v.done) c.enter_all.ensures.view in
    let few : c.args.workers < 2 ^ 32 = c.requires.few.1 in
    let short = entered_few g.J.Job.which g.J.Job.belongs g.J.Job.over c.args.shared.now (λ x. g.J.Job.which x.job) c.args.row (map (λ x. (g.J.Job.which x.job, c.args.shared.now)) c.args.row) refl c.requires.few.2 in
    works_first g.J.Job.which g.J.Job.belongs g.J.Job.over c.args.shared.now (map (λ x. (g.J.Job.which x.job, c.args.shared.now)) c.args.row) (every - c.args.workers)
    (view c.deal-crew.new.pass) c.new.result known (omega arith) c.new.ensures short
    (entered_home g.J.Job.which g.J.Job.belongs g.J.Job.over c.args.shared.now (λ x. g.J.Job.which x.job) c.args.row)

pub gather-requires-clause-workers : goal.gather-requires-clause-workers
gather-requires-clause-workers g c κs within =
    let was = subst (λ l. All (λ w. IsPassOf c.args.rooms.queue w.pass × Serves g.J.Job.which g.J.Job.belongs g.J.Job.over c.args.shared.now (view c.enter_all.new.pass).entered (view w.pass) w.finished) l)
    (sym c.as_mut_slice.ensures.value) c.deal-crew.ensures.workers in
    let n : length c.run_workers.new.workers ≡ length c.as_mut_slice.result.now = c.run_workers.auto.workers in
    let whole = take_at c.run_workers.new.workers (drop (length c.run_workers.new.workers) c.deal-crew.result.items) c.deal-crew.result.len (n ∙ c.as_mut_slice.ensures.len) in
    subst (λ l. All (λ w. IsPassOf c.args.rooms.queue w.pass × Serves g.J.Job.which g.J.Job.belongs g.J.Job.over c.args.shared.now (view c.deal-crew.new.pass).entered (view w.pass) w.finished) l) (sym whole)
    (λ k d lt.
    let lt' : k < length c.as_mut_slice.result.now = subst (λ m. k < m) n lt in
    let s = was k d lt' in
    let r = c.run_workers.ensures.workers k d lt' in
    (r.0, record { works = r.1; one = r.2 ∙ s.1.one; same = r.3 ∙ s.1.same ∙ sym (ap (λ v. v.entered) c.deal-crew.ensures.view) }))

pub returns-clause-order : goal.returns-clause-order
returns-clause-order g c =
    let entered : (view c.settle.new.collector.pass).entered ≡ map (λ x. (g.J.Job.which x.job, c.args.shared.now)) c.args.row =
    c.settle.ensures.same.1 ∙ c.gather.ensures.entered ∙ ap (λ v. v.entered) c.deal-crew.ensures.view ∙ ap (λ v. v.entered) c.enter_all.ensures.view in
    in_turn g.J.Job.which g.J.Job.belongs g.J.Job.over c.args.shared.now (λ x. g.J.Job.which x.job) c.args.row c.in_order.result.items
    (c.in_order.ensures.len ∙ ap length entered ∙ length-map c.args.row (λ x. (g.J.Job.which x.job, c.args.shared.now)))
    (λ k j e. subst (λ b. IsBack g.J.Job.which g.J.Job.belongs g.J.Job.over c.args.shared.now b k j) entered (c.in_order.ensures.back k j e))

pub returns-clause-over : goal.returns-clause-over
returns-clause-over g c = all_over g.J.Job.which g.J.Job.belongs g.J.Job.over c.args.shared.now (view c.settle.new.collector.pass).entered c.in_order.result.items c.in_order.ensures.back

pub returns-clause-belongs : goal.returns-clause-belongs
returns-clause-belongs g c = all_home g.J.Job.which g.J.Job.belongs g.J.Job.over c.args.shared.now (view c.settle.new.collector.pass).entered c.in_order.result.items c.in_order.ensures.back
