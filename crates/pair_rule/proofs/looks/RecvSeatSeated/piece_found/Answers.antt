use Rattle.std.proofs.Common.{◌≡◌, ◌<◌, length, sym, subst}
use Rattle.part_geometry.specs.Pieces.{pieces}
use Rattle.pair_core.specs.Names.{Piece}
use Rattle.pair_rule.specs.Steps.{Seat}
use Rattle.pair_rule.specs.Seats.{AreLanes}
use Rattle.pair_rule.specs.declared.view.Standing.TheVariants.{Seated}
use Rattle.pair_rule.proofs.LanesStay.{lanes_stay, other_piece}
use Rattle.pair_rule.proofs.looks.RecvSeatSeated.piece_found.Goals as goal

pub invariant_of-self : goal.invariant_of-self
invariant_of-self g c =
    let me : Seat = c.self.inside.seat.me in let v = c.self.invariant in
    subst (λ (z : Seat). (z.0.standing ≡ Seated) × (z.0.number ≡ 1) × AreLanes z.0 (length z.1) c.self.inside.lanes.items × (length c.self.inside.shelves.items ≡ z.0.geometry.recv_parts) × (c.self.inside.round ≡ z.0.recv.round))
    (sym c.load_piece_as.ensures.step)
    (v.0, v.1, lanes_stay me.0 (Piece c.args.place c.args.piece) c.load_piece_as.result (length me.1) c.self.inside.lanes.items ((subst (λ s. c.args.place < s.view.geometry.depth) (sym c.self.view_is) c.requires.place, subst (λ s. c.args.piece < pieces s.view.geometry) (sym c.self.view_is) c.requires.piece)) (other_piece c.args.place c.args.piece) v.2, v.3, v.4)
