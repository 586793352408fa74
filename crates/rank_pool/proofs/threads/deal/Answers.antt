use Rattle.std.proofs.Common.{◌≡◌, ◌-◌, ◌+◌, ◌<◌, ◌≤◌, All, ap, ◌∙◌, sym, subst, arith, rules}
use Rattle.crossbeam_queue.specs.Passes.{view, IsPassOf}
use Rattle.rank_pool.specs.Places.{knows}
use Rattle.rank_pool.specs.Jobs.{Serves}
use Rattle.rank_pool.proofs.Turns.{deals, serves_new, all_push}
use Rattle.rank_pool.proofs.threads.deal.Goals as goal

pub another-theirs-requires-clause-rule : goal.another-theirs-requires-clause-rule
another-theirs-requires-clause-rule g c =
    let i = c.loop.invariant in
    let p : (view c.loop.pass).parts ≡ (view c.args.pass.now).parts - c.loop.counter = ap (λ v. v.parts) i.known in
    let r : c.args.count < (view c.args.pass.now).parts = c.requires.parts in
    deals g.J.Job.which g.J.Job.belongs _ _ (omega arith)

pub loop-preserved : goal.loop-preserved
loop-preserved g c =
    let i = c.loop.invariant in
    let fewer : (view c.args.pass.now).parts - c.loop.counter - 1 ≡ (view c.args.pass.now).parts - (c.loop.counter + 1) = omega arith in
    let serves = serves_new g.J.Job.which g.J.Job.belongs g.J.Job.over c.args.shared.now (view c.args.pass.now).entered (view c.loop.pass).entered (view c.another-theirs.result) c.new.result
    c.requires.home c.requires.few c.new.ensures c.another-theirs.ensures.rule.1 (ap (λ v. v.entered) i.known) in
    record {
      queue = search rules;
      known = c.another-theirs.ensures.rule.0 ∙ ap (λ v. knows (v.parts - 1) v.entered v.held v.done) i.known
          ∙ ap (λ n. knows n (view c.args.pass.now).entered (view c.args.pass.now).held (view c.args.pass.now).done) fewer;
      len = c.push_reserved.ensures.len ∙ ap (λ n. n + 1) i.len;
      room = subst (λ n. c.args.count ≤ n) (sym c.push_reserved.ensures.capacity) i.room;
      workers = subst (λ l. All (λ w. IsPassOf c.args.queue.now w.pass × Serves g.J.Job.which g.J.Job.belongs g.J.Job.over c.args.shared.now (view c.args.pass.now).entered (view w.pass) w.finished) l) (sym c.push_reserved.ensures.items)
          (all_push (λ w. IsPassOf c.args.queue.now w.pass × Serves g.J.Job.which g.J.Job.belongs g.J.Job.over c.args.shared.now (view c.args.pass.now).entered (view w.pass) w.finished) c.loop.workers.items _ i.workers (search rules, serves));
    }
