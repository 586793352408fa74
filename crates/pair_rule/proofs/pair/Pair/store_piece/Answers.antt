use Rattle.std.proofs.Common.{ap, sym, subst, refl}
use Rattle.pair_core.specs.Moves.{StorePiece}
use Rattle.pair_rule.specs.Steps.{MayMake}
use Rattle.pair_rule.specs.declared.view.View.{View}
use Rattle.pair_rule.proofs.SendViews.{IsSending, send_stores_piece}
use Rattle.pair_rule.proofs.pair.Pair.store_piece.Goals as goal

pub invariant_of-seat : goal.invariant_of-seat
invariant_of-seat g c =
    let me = c.seat.inside.seat.me in let i = c.seat.invariant in
    let h : MayMake me.0 (StorePiece c.args.round c.args.piece) = subst (λ (z : View). MayMake z (StorePiece c.args.round c.args.piece)) (sym (ap (λ v. v.view) c.seat.view_is)) c.requires.allowed in
    subst (IsSending c.args.round) (sym c.store_piece_as.ensures.step) (i.0, i.1, i.2, i.3, send_stores_piece me.0 c.args.round c.args.piece h i.4, refl)
