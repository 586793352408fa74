use Rattle.std.proofs.Common.{◌≡◌, ℕ, ◌<◌, ◌≤◌, ◌-◌, ◌%◌, ◌^◌, bit_or, sym, ap, ◌∙◌, subst, arith}
use mathlib.Core.Option.{none}
use Rattle.atomic_table.specs.Table.{step, Allows}
use Rattle.part_geometry.specs.Shape.{Shape, IsShape}
use Rattle.part_geometry.specs.Pieces.{pieces, first_part, Touches}
use Rattle.pair_core.specs.Names.{Name, Piece}
use Rattle.pair_core.proofs.Cut.{touch_range}
use Rattle.pair_core.proofs.Facts.{bit_small}
use Rattle.pair_rule.specs.Addresses.{address}
use Rattle.pair_rule.specs.Rule.{Holds}
use Rattle.pair_rule.specs.Marking.{lays}
use Rattle.pair_rule.specs.declared.view.View.{View}
use Rattle.pair_rule.proofs.Core.{laws}
use Rattle.pair_rule.proofs.Allowed.{place_there}
use Rattle.pair_rule.proofs.Calls.{fitting}
use Rattle.pair_rule.proofs.Marking.{lay_allowed}
use Rattle.pair_rule.proofs.pair.Pair.mark_piece_as.Goals as goal

-- the least partition that a piece touches, and the distance of another from it
near : (t g d : Shape) → t ≡ g → d ≡ g → IsShape g → (i p n : ℕ) → i < pieces d → Touches d i p → n ≡ first_part t i → (n ≤ p) × (p - n < 33)
near t g d a b v i p n inside touch is =
    let r = touch_range g v i p (subst (λ (z : Shape). i < pieces z) b inside) (subst (λ (z : Shape). Touches z i p) b touch) in
    let s = bit_small g v i p (subst (λ (z : Shape). i < pieces z) b inside) (subst (λ (z : Shape). Touches z i p) b touch) in
    let e : n ≡ first_part g i = is ∙ ap (λ (z : Shape). first_part z i) a in let low = r.low in (omega arith, omega arith)

pub overflow_sub-partition : goal.overflow_sub-partition
overflow_sub-partition g c =
    let f = c.requires.filled in
    (near c.self.inside.tables c.self.inside.table.shared.key.geometry c.args.seat.now.me.0.geometry c.self.invariant.0 (c.requires.pair.1 ∙ sym (ap (λ q. q.key.geometry) c.self.view_is)) c.self.invariant.1
    c.args.piece c.args.partition c.first_part.result f.lays.piece f.lays.touches c.first_part.ensures).0

pub one_bit-bit-requires : goal.one_bit-bit-requires
one_bit-bit-requires g c =
    let f = c.requires.filled in
    (near c.self.inside.tables c.self.inside.table.shared.key.geometry c.args.seat.now.me.0.geometry c.self.invariant.0 (c.requires.pair.1 ∙ sym (ap (λ q. q.key.geometry) c.self.view_is)) c.self.invariant.1
    c.args.piece c.args.partition c.first_part.result f.lays.piece f.lays.touches c.first_part.ensures).1

pub fetch_or-requires : goal.fetch_or-requires
fetch_or-requires g c =
    let may = g.C.Content.may in let t = c.self.inside.table.shared in let key = t.key in let L = laws key.geometry c.self.invariant.1 in
    let k : ℕ = c.args.round in let p : ℕ = c.args.partition in let i : ℕ = c.args.piece in let seat = c.args.seat.now in let d : View = seat.me.0 in
    let one : ℕ = c.one_bit-bit.result in let index : ℕ = c.piece_word-index.result in
    let tables : Shape = c.self.inside.tables in
    let same_shape : d.geometry ≡ key.geometry = c.requires.pair.1 ∙ sym (ap (λ q. q.key.geometry) c.self.view_is) in
    let X : Shape → Name = λ z. Piece (k % z.depth) i in
    let at : index ≡ address tables (X tables) = c.piece_word-index.ensures.value ∙ ap (λ (z : ℕ). address tables (Piece z i)) c.place-place.ensures.value in
    let all = fitting may key tables t.table_id c.args.self.now c.self.invariant.0 c.self.invariant.2 c.self.view_is seat.table_id d X index c.requires.pair at
    (place_there k key.geometry.depth c.self.invariant.1.depth.0, subst (λ (z : Shape). i < pieces z) same_shape c.requires.filled.lays.piece) in
    let bit_is : 2 ^ (p - first_part d.geometry i) ≡ one =
    sym (c.one_bit-bit.ensures ∙ ap (λ (z : ℕ). 2 ^ (p - z)) (c.first_part.ensures ∙ ap (λ (z : Shape). first_part z i) (c.self.invariant.0 ∙ sym same_shape))) in
    let led = lay_allowed may key L t.table_id.slots seat.id k p i one t.table_id.slots index one 0 d seat.me.1 c.requires.live same_shape c.requires.filled c.requires.row bit_is in (
      all.0,
      all.1,
      subst (λ (z : ℕ × ℕ × ℕ). Allows (Holds may key) t.table_id.slots seat.id seat.me z.2 (λ n. bit_or n one) (lays z.0 z.1 (step t.table_id.slots index one 0 none) seat.me))
          (λ j. (c.requires.said.0 j, c.requires.said.1 j, sym all.3 j)) led,
    )
