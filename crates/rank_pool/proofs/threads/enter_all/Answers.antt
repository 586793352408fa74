use Rattle.std.proofs.Common.{◌≡◌, ℕ, suc, ◌+◌, ◌++◌, ◌∷◌, [], length, map, sym, ap, ◌∙◌, subst, append_assoc, arith, length-append}
use Rattle.crossbeam_queue.specs.Passes.{view}
use Rattle.rank_pool.specs.Places.{every, knows}
use Rattle.rank_pool.proofs.Filling.{waits_first}
use Rattle.rank_pool.proofs.threads.enter_all.Goals as goal

pub unchain-ticket-requires-clause-some : goal.unchain-ticket-requires-clause-some
unchain-ticket-requires-clause-some g c κs within =
    let rest = c.loop.invariant.rest in
    let below = c.loop-test.true in
    let end : c.len-end.result ≡ length c.args.tickets = c.len-end.ensures.value in
    omega arith

pub enter-requires-clause-every : goal.enter-requires-clause-every
enter-requires-clause-every g c κs within = ap (λ v. v.parts) c.loop.invariant.known

pub enter-requires-clause-next : goal.enter-requires-clause-next
enter-requires-clause-next g c κs within =
    let first = waits_first g.J.Job.which g.J.Job.belongs g.J.Job.over _ _ _ _ _ c.unchain-ticket.ensures c.loop.invariant.waits in
    first.0 ∙ sym c.loop.invariant.count

pub enter-requires-clause-belongs : goal.enter-requires-clause-belongs
enter-requires-clause-belongs g c κs within =
    let first = waits_first g.J.Job.which g.J.Job.belongs g.J.Job.over _ _ _ _ _ c.unchain-ticket.ensures c.loop.invariant.waits in
    subst (g.J.Job.belongs c.unchain-ticket.result.job) (sym first.1) first.2

pub loop-preserved : goal.loop-preserved
loop-preserved g c =
    let i = c.loop.invariant in
    let first = waits_first g.J.Job.which g.J.Job.belongs g.J.Job.over _ _ _ _ _ c.unchain-ticket.ensures i.waits in
    let before = (view c.loop.pass).entered in
    let one : ℕ × g.row.J-Shared.Denot = (g.J.Job.which c.unchain-ticket.result.job, c.unchain-ticket.result.home.value) in
    let grown : (view c.enter.new.pass).entered ≡ before ++ one ∷ [] = ap (λ v. v.entered) c.enter.ensures.view in
    let here : ℕ × g.row.J-Shared.Denot = (g.J.Job.which c.unchain-ticket.result.job, c.args.shared.now) in
    let same : one ≡ here = ap (λ s. (g.J.Job.which c.unchain-ticket.result.job, s)) first.1 in
    let longer = length-append before (one ∷ []) in
    let fewer : length c.loop.row ≡ suc (length c.unchain-ticket.new.row) = ap length c.unchain-ticket.ensures in
    let rest = i.rest in
    record {
      queue = c.enter.ensures.queue;
      waits = first.3;
      known = c.enter.ensures.view ∙ (λ k. knows every (sym grown k) (ap (λ v. v.held) i.known k) (ap (λ v. v.done) i.known k));
      count = ap length grown ∙ longer ∙ ap (λ n. n + 1) i.count;
      entered = ap (λ l. l ++ map (λ x. (g.J.Job.which x.job, c.args.shared.now)) c.unchain-ticket.new.row) (grown ∙ ap (λ o. before ++ o ∷ []) same)
          ∙ append_assoc before (here ∷ []) (map (λ x. (g.J.Job.which x.job, c.args.shared.now)) c.unchain-ticket.new.row)
          ∙ ap (λ l. before ++ map (λ x. (g.J.Job.which x.job, c.args.shared.now)) l) (sym c.unchain-ticket.ensures) ∙ i.entered;
      rest = omega arith;
    }
