use Rattle.std.proofs.Common.{◌≡◌, [], ◌∷◌, ◌++◌, length, Some, set, sym, ap, ◌∙◌, subst, ⊎_elim, append_assoc, append-nil, arith}
use Rattle.std.proofs.lemmas.List.{length-set}
use lib.ListN.{get_elem?}
use Rattle.crossbeam_queue.specs.Passes.{view}
use Rattle.rank_pool.specs.Jobs.{IsIn}
use Rattle.rank_pool.proofs.Filling.{some_within, snoc_at, here_at, laid_one, laid_more}
use Rattle.rank_pool.proofs.order.lay.Goals as goal

pub index_mut-requires : goal.index_mut-requires
index_mut-requires g c =
    let i = c.loop-ticket.invariant in
    let steps : c.loop-ticket.ticket-iterator ≡ c.in-Some.ticket ∷ c.next.new.self = c.in-Some.ensures.steps in
    let all : c.loop-ticket.yielded ++ (c.in-Some.ticket ∷ c.next.new.self) ≡ c.args.finished =
    ap (λ l. c.loop-ticket.yielded ++ l) (sym steps) ∙ i.rest ∙ c.into_iter-ticket-iterator.ensures.into_iter_gives.0 in
    let it = c.requires.each (length c.loop-ticket.yielded) c.in-Some.ticket (here_at c.loop-ticket.yielded c.next.new.self c.args.finished c.in-Some.ticket all) in
    let lt = some_within (view c.args.pass.now).entered c.in-Some.ticket.number _ it.0.0 in
    let len : length c.loop-ticket.row.items ≡ length (view c.args.pass.now).entered = i.len in
    let ok = c.loop-ticket.row.ok in
    omega arith

pub loop-ticket-preserved : goal.loop-ticket-preserved
loop-ticket-preserved g c =
    let i = c.loop-ticket.invariant in
    let steps : c.loop-ticket.ticket-iterator ≡ c.in-Some.ticket ∷ c.next.new.self = c.in-Some.ensures.steps in
    let all : c.loop-ticket.yielded ++ (c.in-Some.ticket ∷ c.next.new.self) ≡ c.args.finished =
    ap (λ l. c.loop-ticket.yielded ++ l) (sym steps) ∙ i.rest ∙ c.into_iter-ticket-iterator.ensures.into_iter_gives.0 in
    let it = c.requires.each (length c.loop-ticket.yielded) c.in-Some.ticket (here_at c.loop-ticket.yielded c.next.new.self c.args.finished c.in-Some.ticket all) in
    let one = laid_one g.J.Job.which g.J.Job.belongs g.J.Job.over c.args.shared.now (view c.args.pass.now).entered c.loop-ticket.row.items c.in-Some.ticket c.requires.home it.0 it.1 i.len in
    record {
      len = length-set c.loop-ticket.row.items c.in-Some.ticket.number (Some c.in-Some.ticket.job) ∙ i.len;
      laid = λ k y e. ⊎_elim
          (λ a. laid_more g.J.Job.which g.J.Job.belongs g.J.Job.over c.args.shared.now (view c.args.pass.now).entered c.loop-ticket.row.items c.in-Some.ticket one y.number (i.laid k y a))
          (λ (t : (k ≡ length c.loop-ticket.yielded) × (c.in-Some.ticket ≡ y)). subst (λ z. IsIn g.J.Job.which g.J.Job.belongs g.J.Job.over c.args.shared.now (view c.args.pass.now).entered (set c.loop-ticket.row.items c.in-Some.ticket.number (Some c.in-Some.ticket.job)) z.number) t.1 one)
          (snoc_at c.loop-ticket.yielded c.in-Some.ticket y k e);
      rest = append_assoc c.loop-ticket.yielded (c.in-Some.ticket ∷ []) _ ∙ ap (λ l. c.loop-ticket.yielded ++ l) (sym steps) ∙ i.rest;
    }

pub returns-clause-laid : goal.returns-clause-laid
returns-clause-laid g c =
    let i = c.loop-ticket.invariant in
    let empty : c.loop-ticket.ticket-iterator ≡ [] = c.in-None.ensures.steps.0 in
    let all : c.loop-ticket.yielded ≡ c.args.finished =
    sym (append-nil c.loop-ticket.yielded) ∙ ap (λ l. c.loop-ticket.yielded ++ l) (sym empty) ∙ i.rest ∙ c.into_iter-ticket-iterator.ensures.into_iter_gives.0 in
    λ k x e. i.laid k x (ap (λ l. get_elem? l k) all ∙ e)
