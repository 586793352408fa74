use Rattle.std.proofs.Common.{◌≡◌, ℕ, ◌<◌, ◌/◌, List, bit_or, sym, ap, ◌∙◌, subst}
use Rattle.std.specs.Prelude.{eqb}
use mathlib.Core.Option.{none}
use prog.Atomic.{either}
use Rattle.atomic_table.specs.Table.{step, Allows}
use Rattle.part_geometry.specs.Shape.{Shape}
use Rattle.pair_core.specs.Names.{Name, Claim}
use Rattle.gate_word.specs.Words.{round_in}
use Rattle.pair_rule.specs.Rule.{Holds, MayMark}
use Rattle.pair_rule.specs.Seats.{PairOf}
use Rattle.pair_rule.specs.Marking.{tries}
use Rattle.pair_rule.specs.declared.view.View.{View}
use Rattle.pair_rule.proofs.Core.{laws}
use Rattle.pair_rule.proofs.Allowed.{word_there}
use Rattle.pair_rule.proofs.Calls.{fitting}
use Rattle.pair_rule.proofs.Marking.{claim_allowed}
use Rattle.pair_rule.proofs.pair.Pair.try_claim_as.Goals as goal

pub compare_exchange-requires : goal.compare_exchange-requires
compare_exchange-requires g c =
    let may = g.C.Content.may in let t = c.self.inside.table.shared in let key = t.key in let L = laws key.geometry c.self.invariant.1 in
    let p : ℕ = c.args.partition in let shown : ℕ = c.args.shown in let seat = c.args.seat.now in let d : View = seat.me.0 in let h = c.requires.allowed in
    let new : ℕ = bit_or shown c.one_bit.result in let index : ℕ = c.claim_word-index.result in
    let same_shape : d.geometry ≡ key.geometry = c.requires.pair.1 ∙ sym (ap (λ q. q.key.geometry) c.self.view_is) in
    let X : Shape → Name = λ z. Claim (p / 32) in
    let all = fitting may key c.self.inside.tables t.table_id c.args.self.now c.self.invariant.0 c.self.invariant.2 c.self.view_is seat.table_id d X index c.requires.pair c.claim_word-index.ensures.value
    (word_there p key.geometry.send_parts (subst (λ (z : Shape). p < z.send_parts) same_shape h.2)) in
    let ok : MayMark may key (round_in shown) p c.args.bytes.now = subst (λ (q : PairOf g.row.C-Tag.Denot). MayMark may q.key (round_in shown) p c.args.bytes.now) (sym c.self.view_is) c.requires.bytes in
    let led = claim_allowed may key L t.table_id.slots seat.id shown p new t.table_id.slots index new d seat.me.1 c.args.bytes.now c.requires.live same_shape h (sym c.requires.shown) ok (ap (bit_or shown) (sym c.one_bit.ensures)) in (
      all.0,
      all.1,
      subst (λ (z : ℕ × List ℕ × ℕ). Allows (Holds may key) t.table_id.slots seat.id seat.me z.2 (λ n. either (eqb n shown) new n) (tries z.0 z.1 (step t.table_id.slots index shown new none) seat.me))
          (λ j. (c.requires.said.0 j, c.requires.said.1 j, sym all.3 j)) led,
    )
