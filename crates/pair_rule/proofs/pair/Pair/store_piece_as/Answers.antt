use Rattle.std.proofs.Common.{◌≡◌, ℕ, ◌<◌, ◌%◌, sym, ap, ◌∙◌, subst}
use mathlib.Core.Option.{none}
use Rattle.atomic_table.specs.Table.{step}
use Rattle.part_geometry.specs.Shape.{Shape}
use Rattle.part_geometry.specs.Pieces.{pieces}
use Rattle.pair_core.specs.Names.{Name, Piece}
use Rattle.pair_core.specs.Moves.{StorePiece, after}
use Rattle.pair_rule.specs.Addresses.{address}
use Rattle.pair_rule.specs.Views as view
use Rattle.pair_rule.specs.declared.view.View.{View}
use Rattle.pair_rule.proofs.Core.{laws}
use Rattle.pair_rule.proofs.Allowed.{place_there}
use Rattle.pair_rule.proofs.Bridge.{Held}
use Rattle.pair_rule.proofs.Sides.{stepped_to}
use Rattle.pair_rule.proofs.Calls.{asked}
use Rattle.pair_rule.proofs.SideSteps.{store_piece_leads}
use Rattle.pair_rule.proofs.pair.Pair.store_piece_as.Goals as goal

pub store-requires : goal.store-requires
store-requires g c =
    let may = g.C.Content.may in let t = c.self.inside.table.shared in let key = t.key in let L = laws key.geometry c.self.invariant.1 in
    let k : ℕ = c.args.round in let i : ℕ = c.args.piece in let seat = c.args.seat.now in let d : View = seat.me.0 in let h = c.requires.allowed in
    let same_shape : d.geometry ≡ key.geometry = c.requires.pair.1 ∙ sym (ap (λ p. p.key.geometry) c.self.view_is) in
    let X : Shape → Name = λ z. Piece (k % z.depth) i in
    let at : c.piece_word-word.result ≡ address c.self.inside.tables (X c.self.inside.tables) = c.piece_word-word.ensures.value ∙ ap (λ (z : ℕ). address c.self.inside.tables (Piece z i)) c.place.ensures.value in
    asked may key c.self.inside.tables t.table_id c.args.self.now c.self.invariant.0 c.self.invariant.2 c.self.view_is c.self.invariant.1 seat.table_id seat.id seat.me X c.piece_word-word.result
    (λ _. c.empty_word.result) (λ _. c.empty_word.result) (λ _ e. view.stored_piece g.X.Numbers.one g.X.Numbers.two e) (λ _ _. Unit {0}) (step t.table_id.slots c.piece_word-word.result c.empty_word.result 0 none)
    c.requires.pair c.requires.live at (place_there k key.geometry.depth c.self.invariant.1.depth.0, subst (λ (z : Shape). i < pieces z) same_shape h.1)
    (λ s r there.
    let led = store_piece_leads may key L s r seat.id d there c.requires.live k i h in (
      _,
      subst (λ (z : ℕ × ℕ × ℕ). Held may key (stepped_to may key L s (X key.geometry) z.0 seat.id (view.stored_piece z.1 z.2 d)) (after key.geometry r.core (StorePiece k i)))
          (λ j. (sym c.empty_word.ensures j, c.requires.said.0 j, c.requires.said.1 j)) led,
      tt,
    ))
