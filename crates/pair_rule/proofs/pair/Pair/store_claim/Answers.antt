use Rattle.std.proofs.Common.{ap, sym, subst}
use Rattle.pair_core.specs.Moves.{StoreClaim}
use Rattle.pair_rule.specs.Steps.{MayMake}
use Rattle.pair_rule.specs.declared.view.View.{View}
use Rattle.pair_rule.proofs.SendViews.{IsSending, send_stores_claim}
use Rattle.pair_rule.proofs.pair.Pair.store_claim.Goals as goal

pub invariant_of-seat : goal.invariant_of-seat
invariant_of-seat g c =
    let me = c.seat.inside.seat.me in let i = c.seat.invariant in
    let h : MayMake me.0 (StoreClaim c.args.round c.args.word) = subst (λ (z : View). MayMake z (StoreClaim c.args.round c.args.word)) (sym (ap (λ v. v.view) c.seat.view_is)) c.requires.allowed in
    subst (IsSending c.seat.inside.round) (sym c.store_claim_as.ensures.step) (i.0, i.1, i.2, i.3, send_stores_claim me.0 c.args.round c.args.word h i.4, i.5)
