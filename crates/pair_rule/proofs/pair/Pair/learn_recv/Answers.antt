use Rattle.std.proofs.Common.{◌≡◌, length, sym, subst}
use Rattle.pair_core.specs.Names.{Claim}
use Rattle.pair_rule.specs.Views.{told}
use Rattle.pair_rule.specs.Seats.{AreLanes}
use Rattle.pair_rule.specs.Steps.{Seat}
use Rattle.pair_rule.specs.declared.view.Standing.TheVariants.{Seated}
use Rattle.pair_rule.proofs.LanesStay.{lanes_told, lanes_stay, other_claim}
use Rattle.pair_rule.proofs.pair.Pair.learn_recv.Goals as goal

pub invariant_of-seat : goal.invariant_of-seat
invariant_of-seat g c =
    let seat = c.seat.inside in let i = c.seat.invariant in let both = told seat.seat.me.0 c.args.note.view in
    subst (λ (z : Seat). (z.0.standing ≡ Seated) × (z.0.number ≡ 1) × AreLanes z.0 (length z.1) seat.lanes.items × (length seat.shelves.items ≡ z.0.geometry.recv_parts) × (seat.round ≡ z.0.recv.round))
    (sym c.hear.ensures.step) (
      i.0,
      i.1,
      lanes_stay both (Claim 0) c.hear.result (length seat.seat.me.1) seat.lanes.items c.hear.ensures.words (other_claim 0)
          (lanes_told seat.seat.me.0 c.args.note.view (length seat.seat.me.1) seat.lanes.items i.1 i.2),
      i.3,
      i.4,
    )
