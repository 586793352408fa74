use Rattle.std.proofs.Common.{◌≡◌, ℕ, ◌<◌, sym, ap, ◌∙◌, subst}
use mathlib.Core.Option.{none}
use Rattle.atomic_table.specs.Table.{step}
use Rattle.part_geometry.specs.Shape.{Shape}
use Rattle.pair_core.specs.Names.{Name, Claim, claim_words}
use Rattle.pair_core.specs.Moves.{StoreClaim, after}
use Rattle.pair_rule.specs.Views as view
use Rattle.pair_rule.specs.declared.view.View.{View}
use Rattle.pair_rule.proofs.Core.{laws}
use Rattle.pair_rule.proofs.Bridge.{Held}
use Rattle.pair_rule.proofs.Sides.{stepped_to}
use Rattle.pair_rule.proofs.Calls.{asked}
use Rattle.pair_rule.proofs.SideSteps.{store_claim_leads}
use Rattle.pair_rule.proofs.pair.Pair.store_claim_as.Goals as goal

pub store-requires : goal.store-requires
store-requires g c =
    let may = g.C.Content.may in let t = c.self.inside.table.shared in let key = t.key in let L = laws key.geometry c.self.invariant.1 in
    let k : ℕ = c.args.round in let w : ℕ = c.args.word in let seat = c.args.seat.now in let d : View = seat.me.0 in let h = c.requires.allowed in
    let same_shape : d.geometry ≡ key.geometry = c.requires.pair.1 ∙ sym (ap (λ p. p.key.geometry) c.self.view_is) in
    let X : Shape → Name = λ z. Claim w in
    asked may key c.self.inside.tables t.table_id c.args.self.now c.self.invariant.0 c.self.invariant.2 c.self.view_is c.self.invariant.1 seat.table_id seat.id seat.me X c.claim_word-index.result
    (λ _. c.empty_word.result) (λ _. c.empty_word.result) (λ _ e. view.stored_claim g.X.Numbers.one e) (λ _ _. Unit {0}) (step t.table_id.slots c.claim_word-index.result c.empty_word.result 0 none)
    c.requires.pair c.requires.live c.claim_word-index.ensures.value (subst (λ (z : Shape). w < claim_words z) same_shape h.1)
    (λ s r there.
    let led = store_claim_leads may key L s r seat.id d there c.requires.live k w h in (
      _,
      subst (λ (z : ℕ × ℕ). Held may key (stepped_to may key L s (Claim w) z.0 seat.id (view.stored_claim z.1 d)) (after key.geometry r.core (StoreClaim k w)))
          (λ j. (sym c.empty_word.ensures j, c.requires.said j)) led,
      tt,
    ))
