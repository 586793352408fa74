use Rattle.std.proofs.lemmas.Result.{err_from_is_err_and}
use Rattle.std.proofs.Common.{◌≡◌, Ok, ◌+◌, ◌++◌, refl, ap, sym, subst, ◌∙◌, arith}
use Rattle.std.specs.Option.{option_map, option_to_list}
use Rattle.init_match.specs.Matching.{completed_by}
use Rattle.init_match.specs.World.{matched_as, completed_answer, number_fault}
use Rattle.init_match.proofs.PairFacts.{refused, fault_is, sizes_refuse, too_much, accepted, world_grown, append_none, completed_is, none_is}
use Rattle.init_match.proofs.world.World.init.Goals as goal

pub invariant_of-self-in_err-push : goal.invariant_of-self-in_err-push
invariant_of-self-in_err-push c =
    let s = c.self.invariant in
    let same = c.in_err-push.ensures.err in
    let items = c.in_ok-reserve.ensures.items in
    record { grain = s.grain; depth = s.depth; fit = rw same s.fit; sum = rw same s.sum; few = s.few; many = rw same s.many; pairs = rw (same, items) s.pairs }

pub invariant_of-self-in-Some : goal.invariant_of-self-in-Some
invariant_of-self-in-Some c =
    let f = c.from.ensures in let fit = c.in_ok-check_numbers.ensures.fit in let small = c.if-sum-gt-MAX_VOLUME.false in
    let pair =
    subst (λ w. c.in_ok-completed.completed ≡ option_map (matched_as w.grain w.depth) (completed_by w.calls c.args.call)) (sym c.self.view_is)
    (completed_is c.args.self.now c.args.call c.in_ok-completed.completed c.in_ok-completed.ensures) in
    world_grown c.self.inside _ c.args.call c.self.invariant fit
    (record {
      grain = refl;
      depth = refl;
      ledger = c.in_ok-push.ensures.ok;
      sum = ap (λ n. c.self.inside.sum + n) f;
      few = omega arith;
      pairs = c.push_reserved.ensures.items ∙ rw c.in_ok-reserve.ensures.items (ap (λ o. c.self.inside.pairs.items ++ option_to_list o) (sym c.in-Some.is ∙ pair));
    })

pub invariant_of-self-in_default : goal.invariant_of-self-in_default
invariant_of-self-in_default c =
    let f = c.from.ensures in let fit = c.in_ok-check_numbers.ensures.fit in let small = c.if-sum-gt-MAX_VOLUME.false in
    let pair =
    subst (λ w. c.in_ok-completed.completed ≡ option_map (matched_as w.grain w.depth) (completed_by w.calls c.args.call)) (sym c.self.view_is)
    (completed_is c.args.self.now c.args.call c.in_ok-completed.completed c.in_ok-completed.ensures) in
    world_grown c.self.inside _ c.args.call c.self.invariant fit
    (record {
      grain = refl;
      depth = refl;
      ledger = c.in_ok-push.ensures.ok;
      sum = ap (λ n. c.self.inside.sum + n) f;
      few = omega arith;
      pairs = c.in_ok-reserve.ensures.items ∙ append_none c.self.inside.pairs.items ∙ ap (λ o. c.self.inside.pairs.items ++ option_to_list o) (sym (none_is c.in_ok-completed.completed c.in_default.not-Some) ∙ pair);
    })

pub returns-in_err-check_numbers-clause-world : goal.returns-in_err-check_numbers-clause-world
returns-in_err-check_numbers-clause-world c = refused _ c.args.call _ c.from_residual.ensures.0

pub returns-in_err-completed-clause-world : goal.returns-in_err-completed-clause-world
returns-in_err-completed-clause-world c = refused _ c.args.call _ c.from_residual-in_err-completed.ensures.0

pub returns-in_err-reserve-clause-world : goal.returns-in_err-reserve-clause-world
returns-in_err-reserve-clause-world c = rw (← c.self.view_is) (refused _ c.args.call _ c.from_residual-in_err-reserve.ensures.0)

pub returns-in_err-push-clause-world : goal.returns-in_err-push-clause-world
returns-in_err-push-clause-world c =
    rw (c.in_err-push.ensures.err, ← c.self.view_is) (refused _ c.args.call _ c.from_residual-in_err-push.ensures.0)

pub returns-in_err-check_numbers-clause-answer : goal.returns-in_err-check_numbers-clause-answer
returns-in_err-check_numbers-clause-answer c not =
    let p = err_from_is_err_and c.from_residual.result c.from_residual.ensures.1 in
    rw (p.1, p.2, ← c.self.view_is)
    (fault_is (number_fault c.self.inside.ranks c.args.call) tt _ _ (sym c.check_numbers.ensures.answer ∙ c.in_err-check_numbers.was))

pub returns-in_err-completed-clause-answer : goal.returns-in_err-completed-clause-answer
returns-in_err-completed-clause-answer c not =
    let p = err_from_is_err_and c.from_residual-in_err-completed.result c.from_residual-in_err-completed.ensures.1 in
    let numbers = sym c.check_numbers.ensures.answer ∙ c.in_ok-check_numbers.was in
    rw (p.1, p.2)
    (sizes_refuse c.args.self.now c.args.call _ (rw (← c.self.view_is) numbers) (sym c.completed.ensures ∙ c.in_err-completed.was))

pub returns-then-sum-gt-MAX_VOLUME-clause-answer : goal.returns-then-sum-gt-MAX_VOLUME-clause-answer
returns-then-sum-gt-MAX_VOLUME-clause-answer c not =
    rw (← c.self.view_is)
    (too_much c.self.inside c.args.call c.in_ok-completed.completed _ (sym c.check_numbers.ensures.answer ∙ c.in_ok-check_numbers.was)
    (subst (λ w. completed_answer w c.args.call ≡ Ok c.in_ok-completed.completed) (sym c.self.view_is) (sym c.completed.ensures ∙ c.in_ok-completed.was))
    c.self.invariant (ap (λ n. c.self.inside.sum + n) c.from.ensures) c.if-sum-gt-MAX_VOLUME.true)

pub returns-in-Some-clause-answer : goal.returns-in-Some-clause-answer
returns-in-Some-clause-answer c not =
    rw (← c.self.view_is)
    (accepted c.self.inside c.args.call c.in_ok-completed.completed _ _ (sym c.check_numbers.ensures.answer ∙ c.in_ok-check_numbers.was)
    (subst (λ w. completed_answer w c.args.call ≡ Ok c.in_ok-completed.completed) (sym c.self.view_is) (sym c.completed.ensures ∙ c.in_ok-completed.was))
    c.self.invariant (ap (λ n. c.self.inside.sum + n) c.from.ensures) c.if-sum-gt-MAX_VOLUME.false c.len-slot.ensures)

pub returns-in_default-clause-answer : goal.returns-in_default-clause-answer
returns-in_default-clause-answer c not =
    rw (← c.self.view_is)
    (accepted c.self.inside c.args.call c.in_ok-completed.completed _ _ (sym c.check_numbers.ensures.answer ∙ c.in_ok-check_numbers.was)
    (subst (λ w. completed_answer w c.args.call ≡ Ok c.in_ok-completed.completed) (sym c.self.view_is) (sym c.completed.ensures ∙ c.in_ok-completed.was))
    c.self.invariant (ap (λ n. c.self.inside.sum + n) c.from.ensures) c.if-sum-gt-MAX_VOLUME.false c.len-slot.ensures)

pub returns-in-Some-clause-world : goal.returns-in-Some-clause-world
returns-in-Some-clause-world c = rw (c.in_ok-push.ensures.ok, ← c.self.view_is) refl

pub returns-in_default-clause-world : goal.returns-in_default-clause-world
returns-in_default-clause-world c = rw (c.in_ok-push.ensures.ok, ← c.self.view_is) refl
