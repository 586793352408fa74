use Rattle.std.proofs.Common.{◌≡◌, refl, ap, sym, ◌∙◌, subst, length}
use Rattle.part_geometry.specs.Shape.{IsShape}
use Rattle.pair_core.specs.Moves.{StoreReturn}
use Rattle.pair_rule.specs.Seats.{AreLanes}
use Rattle.pair_rule.specs.Steps.{MayMake, Seat}
use Rattle.pair_rule.specs.declared.view.View.{View}
use Rattle.pair_rule.specs.declared.view.Standing.TheVariants.{Seated}
use Rattle.pair_rule.proofs.LanesKept.{return_lanes}
use Rattle.pair_rule.proofs.pair.Pair.store_return.Goals as goal

pub invariant_of-seat : goal.invariant_of-seat
invariant_of-seat g c =
    let e = c.store_return_as.ensures in let me = c.seat.inside.seat.me in let i = c.seat.invariant in
    let view : me.0 ≡ c.args.seat.now.view = ap (λ v. v.view) c.seat.view_is in
    let h : MayMake me.0 (StoreReturn c.args.round c.args.word) = subst (λ (z : View). MayMake z (StoreReturn c.args.round c.args.word)) (sym view) c.requires.allowed in
    let shape : IsShape me.0.geometry = subst IsShape (sym (ap (λ (z : View). z.geometry) view ∙ c.requires.pair.1)) e.shape in
    subst (λ (z : Seat). (z.0.standing ≡ Seated) × (z.0.number ≡ 1) × AreLanes z.0 (length z.1) c.seat.inside.lanes.items × (length c.seat.inside.shelves.items ≡ z.0.geometry.recv_parts) × (c.args.round ≡ z.0.recv.round))
    (sym e.step) (i.0, i.1, return_lanes me.0 c.args.round c.args.word (length me.1) c.seat.inside.lanes.items shape h i.2, i.3, refl)
