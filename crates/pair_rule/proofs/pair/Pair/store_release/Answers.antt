use Rattle.std.proofs.Common.{◌≡◌, ap, sym, subst, length}
use Rattle.pair_core.specs.Moves.{StoreRelease}
use Rattle.pair_rule.specs.Seats.{AreLanes}
use Rattle.pair_rule.specs.Steps.{MayMake, Seat}
use Rattle.pair_rule.specs.declared.view.View.{View}
use Rattle.pair_rule.specs.declared.view.Standing.TheVariants.{Seated}
use Rattle.pair_rule.proofs.LanesKept.{release_lanes}
use Rattle.pair_rule.proofs.pair.Pair.store_release.Goals as goal

pub invariant_of-seat : goal.invariant_of-seat
invariant_of-seat g c =
    let e = c.store_release_in.ensures in let me = c.seat.inside.seat.me in let i = c.seat.invariant in
    let view : me.0 ≡ c.args.seat.now.view = ap (λ v. v.view) c.seat.view_is in
    let h : MayMake me.0 (StoreRelease c.args.round) = subst (λ (z : View). MayMake z (StoreRelease c.args.round)) (sym view) c.requires.allowed in
    subst (λ (z : Seat). (z.0.standing ≡ Seated) × (z.0.number ≡ 1) × AreLanes z.0 (length z.1) c.seat.inside.lanes.items × (length c.seat.inside.shelves.items ≡ z.0.geometry.recv_parts) × (c.seat.inside.round ≡ z.0.recv.round))
    (sym e.step) (i.0, i.1, release_lanes me.0 c.args.round (length me.1) c.seat.inside.lanes.items h i.2, i.3, i.4)
