use Rattle.std.proofs.Common.{◌^◌, bit_or, ap, sym, subst}
use Rattle.pair_core.specs.Moves.{ShutClaim}
use Rattle.pair_rule.specs.Steps.{MayMake}
use Rattle.pair_rule.specs.declared.view.View.{View}
use Rattle.pair_rule.proofs.SendViews.{IsSending, send_shuts}
use Rattle.pair_rule.proofs.pair.Pair.shut_claim.Goals as goal

pub invariant_of-seat : goal.invariant_of-seat
invariant_of-seat g c =
    let me = c.seat.inside.seat.me in let i = c.seat.invariant in let found = c.shut_claim_as.result in
    let h : MayMake me.0 (ShutClaim c.args.word) = subst (λ (z : View). MayMake z (ShutClaim c.args.word)) (sym (ap (λ v. v.view) c.seat.view_is)) c.requires.allowed in
    subst (IsSending c.seat.inside.round) (sym c.shut_claim_as.ensures.step) (i.0, i.1, i.2, i.3, send_shuts me.0 c.args.word (bit_or found (2 ^ 32)) h i.4, i.5)
