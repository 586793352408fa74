use Rattle.std.proofs.Common.{◌<◌, sym, subst}
use Rattle.part_geometry.specs.Pieces.{pieces}
use Rattle.pair_rule.proofs.SendViews.{IsSending, send_looks_piece}
use Rattle.pair_rule.proofs.looks.SendSeatSeated.piece_found.Goals as goal

pub invariant_of-self : goal.invariant_of-self
invariant_of-self g c =
    let me = c.self.inside.seat.me in let i = c.self.invariant in
    let deep = subst (λ s. c.args.place < s.view.geometry.depth) (sym c.self.view_is) c.requires.place in
    let there = subst (λ s. c.args.piece < pieces s.view.geometry) (sym c.self.view_is) c.requires.piece in
    subst (IsSending c.self.inside.round) (sym c.load_piece_as.ensures.step) (i.0, i.1, i.2, i.3, send_looks_piece me.0 c.args.place c.args.piece c.load_piece_as.result deep there i.4, i.5)
