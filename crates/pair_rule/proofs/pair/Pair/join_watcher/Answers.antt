use Rattle.std.proofs.Common.{rules, ◌≡◌, length, ap, ◌∙◌, sym, subst}
use Rattle.gate_word.proofs.Laws.{joins}
use Rattle.pair_rule.proofs.Core.{laws}
use Rattle.pair_core.specs.Names.{Claim}
use Rattle.pair_rule.specs.First.{with_watcher_back}
use Rattle.pair_rule.specs.Views.{saw}
use Rattle.pair_rule.specs.Steps.{Seat}
use Rattle.pair_rule.specs.Seats.{AreLanes}
use Rattle.pair_rule.specs.declared.view.Standing.TheVariants.{Seated}
use Rattle.pair_rule.proofs.LanesStay.{lanes_join, lanes_stay, other_claim}
use Rattle.pair_rule.proofs.Joining.{watcher_joins}
use Rattle.pair_rule.proofs.pair.Pair.join_watcher.Goals as goal

pub join_seat-requires : goal.join_seat-requires
join_seat-requires g c =
    let key = c.self.inside.table.shared.key in let seat = c.into.inside.seat in let i = c.into.invariant in
    let other = c.into_place.result in let live = c.into_place.ensures.live in let me = ap (λ m. m.0) c.into_place.ensures.place.1 in
    (search rules, search rules, search rules, search rules, watcher_joins g.C.Content.may key (laws key.geometry c.self.invariant.1) joins seat.id seat.me.0 other.id other.me.0 i.0 i.1 (search rules) (search rules))

pub invariant_of-into : goal.invariant_of-into
invariant_of-into g c =
    let into = c.into.inside in let i = c.into.invariant in let both = with_watcher_back into.seat.me.0 c.into_place.result.me.0 in
    let me : Seat = c.load_claim_as.new.seat.me in
    let is : c.load_claim_as.new.seat.me ≡ (saw (Claim 0) c.load_claim_as.result both, into.seat.me.1) =
    c.load_claim_as.ensures.step ∙ ap (λ (z : Seat). let y : Seat = (saw (Claim 0) c.load_claim_as.result z.0, z.1) in y) c.join_seat.ensures.2 in
    subst (λ (z : Seat). (z.0.standing ≡ Seated) × (z.0.number ≡ 1) × AreLanes z.0 (length z.1) into.lanes.items × (length into.shelves.items ≡ z.0.geometry.recv_parts) × (into.round ≡ z.0.recv.round))
    (sym is) (
      i.0,
      i.1,
      lanes_stay both (Claim 0) c.load_claim_as.result (length into.seat.me.1) into.lanes.items (search rules) (other_claim 0)
          (lanes_join into.seat.me.0 c.into_place.result.me.0 (length into.seat.me.1) into.lanes.items i.1 i.2),
      i.3,
      i.4,
    )
