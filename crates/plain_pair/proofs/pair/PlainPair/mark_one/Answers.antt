use Rattle.std.proofs.Common.{subst, ◌∙◌, length}
use Rattle.std.proofs.lemmas.Result.{err_from_is_err_and}
use Rattle.plain_pair.specs.Sound.{IsSound}
use Rattle.plain_pair.proofs.Refusals.{same_refusal, follows_refused, follows_marked}
use Rattle.plain_pair.proofs.pair.PlainPair.mark_one.Goals as goal

pub returns-in_err-refuse_mark-clause-answer : goal.returns-in_err-refuse_mark-clause-answer
returns-in_err-refuse_mark-clause-answer c =
    let p = err_from_is_err_and c.from_residual.result c.from_residual.ensures.1 in
    let k = c.args.self.now in
    let sound : IsSound k c.self.inside.missing.items = subst (λ k. IsSound k c.self.inside.missing.items) c.self.view_is c.self.invariant in
    rw (p.1, p.2)
    (follows_refused k c.args.round c.args.p c.args.bytes.now _ (λ r st. c.in_err-refuse_mark.ensures ∙ same_refusal k _ r c.args.round c.args.p (length c.args.bytes.now) sound st))

pub returns-clause-answer : goal.returns-clause-answer
returns-clause-answer c =
    let k = c.args.self.now in
    let sound : IsSound k c.self.inside.missing.items = subst (λ k. IsSound k c.self.inside.missing.items) c.self.view_is c.self.invariant in
    follows_marked k _ c.args.round c.args.p _ c.args.bytes.now _
    (λ r st. c.in_ok-refuse_mark.ensures ∙ same_refusal k _ r c.args.round c.args.p (length c.args.bytes.now) sound st)
    c.mark-sent.ensures.marks
