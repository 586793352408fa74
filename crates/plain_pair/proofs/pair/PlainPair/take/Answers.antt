use Rattle.std.proofs.Common.{subst}
use Rattle.std.proofs.lemmas.Result.{err_from_is_err_and}
use Rattle.plain_pair.specs.Sound.{IsSound}
use Rattle.plain_pair.proofs.Takes.{follows_refused_take, follows_taken}
use Rattle.plain_pair.proofs.pair.PlainPair.take.Goals as goal

pub returns-in_err-refuse_take-clause-answer : goal.returns-in_err-refuse_take-clause-answer
returns-in_err-refuse_take-clause-answer c =
    let p = err_from_is_err_and c.from_residual.result c.from_residual.ensures.1 in
    let k = c.args.self.now in
    let sound : IsSound k c.self.inside.missing.items = subst (λ k. IsSound k c.self.inside.missing.items) c.self.view_is c.self.invariant in
    rw (p.1, p.2) (follows_refused_take k _ c.args.q _ sound c.in_err-refuse_take.ensures)

pub returns-clause-answer : goal.returns-clause-answer
returns-clause-answer c =
    let k = c.args.self.now in
    let sound : IsSound k c.self.inside.missing.items = subst (λ k. IsSound k c.self.inside.missing.items) c.self.view_is c.self.invariant in
    follows_taken k _ _ c.args.q _ _ sound c.in_ok-refuse_take.ensures c.take_out.ensures.takes
