use Rattle.std.proofs.Common.{◌≡◌, ℕ, ◌<◌, get_or, refl, sym, ap, ◌∙◌, subst}
use mathlib.Core.Option.{none}
use Rattle.atomic_table.specs.Table.{step}
use Rattle.part_geometry.specs.Shape.{Shape}
use Rattle.part_geometry.specs.Pieces.{pieces}
use Rattle.pair_core.specs.Names.{Name, Piece}
use Rattle.pair_core.specs.Moves.{LoadPiece, after}
use Rattle.pair_rule.specs.Addresses.{address}
use Rattle.pair_rule.specs.Views as view
use Rattle.pair_rule.specs.Rule.{At}
use Rattle.pair_rule.specs.Told.{Learns}
use Rattle.pair_rule.specs.declared.view.View.{View}
use Rattle.pair_rule.proofs.Core.{laws}
use Rattle.pair_rule.proofs.Bridge.{Held}
use Rattle.pair_rule.proofs.Sides.{stepped_to}
use Rattle.pair_rule.proofs.Calls.{asked}
use Rattle.pair_rule.proofs.SideSteps.{load_piece_leads}
use Rattle.pair_rule.proofs.pair.Pair.load_piece_as.Goals as goal

pub load-requires : goal.load-requires
load-requires g c =
    let may = g.C.Content.may in let t = c.self.inside.table.shared in let key = t.key in let L = laws key.geometry c.self.invariant.1 in
    let e : ℕ = c.args.place in let i : ℕ = c.args.piece in let seat = c.args.seat.now in let d : View = seat.me.0 in
    let same_shape : d.geometry ≡ key.geometry = c.requires.pair.1 ∙ sym (ap (λ p. p.key.geometry) c.self.view_is) in
    let X : Shape → Name = λ z. Piece e i in
    let found : At → ℕ = λ s. get_or s.words (address key.geometry (X key.geometry)) 0 in
    asked may key c.self.inside.tables t.table_id c.args.self.now c.self.invariant.0 c.self.invariant.2 c.self.view_is c.self.invariant.1 seat.table_id seat.id seat.me X c.piece_word-index.result
    (λ n. n) (λ n. n) (λ n y. view.saw (Piece g.X.Numbers.one g.X.Numbers.two) n y) (λ n y. Learns y (Piece g.X.Numbers.one g.X.Numbers.two) n) (step t.table_id.slots c.piece_word-index.result 0 0 none)
    c.requires.pair c.requires.live c.piece_word-index.ensures.value (subst (λ (z : Shape). (e < z.depth) × (i < pieces z)) same_shape (c.requires.place, c.requires.piece))
    (λ s r there.
    let led = load_piece_leads may key L s r seat.id d there c.requires.live d.number e i _ refl (refl, c.requires.place, c.requires.piece) in
    let told = subst (λ (z : ℕ × ℕ). Held may key (stepped_to may key L s (Piece e i) (found s) seat.id (view.saw (Piece z.0 z.1) (found s) d)) (after key.geometry r.core (LoadPiece d.number e i)) × Learns d (Piece z.0 z.1) (found s)) (λ j. (c.requires.said.0 j, c.requires.said.1 j)) led in (_, told.0, told.1))
