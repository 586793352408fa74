use Rattle.std.proofs.Common.{◌≡◌, ℕ, ap, sym, subst, length}
use Rattle.pair_rule.specs.Seats.{AreLanes}
use Rattle.pair_rule.specs.Steps.{Seat}
use Rattle.pair_rule.specs.declared.view.View.{View}
use Rattle.pair_rule.specs.declared.view.Standing.TheVariants.{Seated}
use Rattle.pair_rule.proofs.pair.Pair.lend_all.Goals as goal

pub invariant_of-seat : goal.invariant_of-seat
invariant_of-seat g c =
    let e = c.lend_row.ensures in let me = c.seat.inside.seat.me in let i = c.seat.invariant in
    subst (λ (z : View × ℕ). (z.0.standing ≡ Seated) × (z.0.number ≡ 1) × AreLanes z.0 z.1 c.seat.inside.lanes.items × (length c.seat.inside.shelves.items ≡ z.0.geometry.recv_parts) × (c.seat.inside.round ≡ z.0.recv.round))
    (λ j. (ap (λ (z : Seat). z.0) (sym e.slots.2) j, sym e.long j)) i
