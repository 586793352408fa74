use Rattle.std.proofs.Common.{◌≡◌, ◌<◌, length, sym, subst}
use Rattle.pair_core.specs.Names.{Claim, claim_words}
use Rattle.pair_rule.specs.Steps.{Seat}
use Rattle.pair_rule.specs.Seats.{AreLanes}
use Rattle.pair_rule.specs.declared.view.Standing.TheVariants.{Seated}
use Rattle.pair_rule.proofs.LanesStay.{lanes_stay, other_claim}
use Rattle.pair_rule.proofs.looks.RecvSeatSeated.claim_found.Goals as goal

pub invariant_of-self : goal.invariant_of-self
invariant_of-self g c =
    let me : Seat = c.self.inside.seat.me in let v = c.self.invariant in
    subst (λ (z : Seat). (z.0.standing ≡ Seated) × (z.0.number ≡ 1) × AreLanes z.0 (length z.1) c.self.inside.lanes.items × (length c.self.inside.shelves.items ≡ z.0.geometry.recv_parts) × (c.self.inside.round ≡ z.0.recv.round))
    (sym c.load_claim_as.ensures.step)
    (v.0, v.1, lanes_stay me.0 (Claim c.args.word) c.load_claim_as.result (length me.1) c.self.inside.lanes.items (subst (λ s. c.args.word < claim_words s.view.geometry) (sym c.self.view_is) c.requires.word) (other_claim c.args.word) v.2, v.3, v.4)
