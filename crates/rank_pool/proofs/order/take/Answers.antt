use Rattle.std.proofs.Common.{◌≡◌, ℕ, [], ◌∷◌, ◌++◌, length, Some, None, sym, ap, ◌∙◌, subst, ⊎_elim, append_assoc, ◌+◌, ◌≤◌, length-append}
use mathlib.Core.Option.{some}
use lib.ListN.{get_elem?}
use Rattle.std.specs.Vec.Iter.{into_iter_items}
use Rattle.crossbeam_queue.specs.Passes.{view}
use Rattle.rank_pool.specs.Jobs.{IsBack}
use Rattle.rank_pool.proofs.Filling.{some_within, snoc_at, here_at}
use Rattle.rank_pool.proofs.order.take.Goals as goal

pub loop-slot-preserved : goal.loop-slot-preserved
loop-slot-preserved g c =
    let i = c.loop-slot.invariant in
    let steps : into_iter_items c.loop-slot.slot-iterator ≡ c.in-Some.slot ∷ into_iter_items c.next.new.self = c.in-Some.ensures.steps.0 in
    let all : c.loop-slot.yielded ++ (c.in-Some.slot ∷ into_iter_items c.next.new.self) ≡ c.args.slots.items =
    ap (λ l. c.loop-slot.yielded ++ l) (sym steps) ∙ i.rest ∙ c.into_iter-slot-iterator.ensures.into_iter_gives.0 in
    let at = here_at c.loop-slot.yielded (into_iter_items c.next.new.self) c.args.slots.items c.in-Some.slot all in
    let it = c.requires.slots (length c.loop-slot.yielded) (some_within c.args.slots.items (length c.loop-slot.yielded) c.in-Some.slot at) in
    let same : some (Some c.in-Some-slot.job) ≡ some (Some it.0) = ap some (sym c.in-Some-slot.is) ∙ sym at ∙ it.1 in
    let is : c.in-Some-slot.job ≡ it.0 = (cc) in
    let mine : IsBack g.J.Job.which g.J.Job.belongs g.J.Job.over c.args.shared.now (view c.args.pass.now).entered (length c.loop-slot.jobs.items) c.in-Some-slot.job =
    subst (λ (t : ℕ × _). IsBack g.J.Job.which g.J.Job.belongs g.J.Job.over c.args.shared.now (view c.args.pass.now).entered t.0 t.1) (λ k. (sym i.len k, sym is k)) it.2 in
    record {
      len = ap length c.push_reserved.ensures.items ∙ length-append c.loop-slot.jobs.items (c.in-Some-slot.job ∷ []) ∙ ap (λ n. n + 1) i.len ∙ sym (length-append c.loop-slot.yielded (c.in-Some.slot ∷ []));
      room = subst (λ n. length c.args.slots.items ≤ n) (sym c.push_reserved.ensures.capacity) i.room;
      back = λ k j e. ⊎_elim (λ a. i.back k j a)
          (λ (t : (k ≡ length c.loop-slot.jobs.items) × (c.in-Some-slot.job ≡ j)). subst (λ (u : ℕ × _). IsBack g.J.Job.which g.J.Job.belongs g.J.Job.over c.args.shared.now (view c.args.pass.now).entered u.0 u.1) (λ h. (sym t.0 h, t.1 h)) mine)
          (snoc_at c.loop-slot.jobs.items c.in-Some-slot.job j k (ap (λ l. get_elem? l k) (sym c.push_reserved.ensures.items) ∙ e));
      rest = append_assoc c.loop-slot.yielded (c.in-Some.slot ∷ []) _ ∙ ap (λ l. c.loop-slot.yielded ++ l) (sym steps) ∙ i.rest;
    }

pub unreachable-requires : goal.unreachable-requires
unreachable-requires g c =
    let i = c.loop-slot.invariant in
    let steps : into_iter_items c.loop-slot.slot-iterator ≡ c.in-Some.slot ∷ into_iter_items c.next.new.self = c.in-Some.ensures.steps.0 in
    let all : c.loop-slot.yielded ++ (c.in-Some.slot ∷ into_iter_items c.next.new.self) ≡ c.args.slots.items =
    ap (λ l. c.loop-slot.yielded ++ l) (sym steps) ∙ i.rest ∙ c.into_iter-slot-iterator.ensures.into_iter_gives.0 in
    let at = here_at c.loop-slot.yielded (into_iter_items c.next.new.self) c.args.slots.items c.in-Some.slot all in
    let it = c.requires.slots (length c.loop-slot.yielded) (some_within c.args.slots.items (length c.loop-slot.yielded) c.in-Some.slot at) in
    let same : some None ≡ some (Some it.0) = ap some (sym c.in-None-slot.is) ∙ sym at ∙ it.1 in
    cc
