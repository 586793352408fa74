use Rattle.std.proofs.Common.{◌≡◌, ℕ, ◌<◌, ◌^◌, get_or, bit_or, refl, sym, ap, ◌∙◌, subst}
use mathlib.Core.Option.{none}
use Rattle.atomic_table.specs.Table.{step}
use Rattle.part_geometry.specs.Shape.{Shape}
use Rattle.pair_core.specs.Names.{Name, Claim, claim_words}
use Rattle.pair_core.specs.Moves.{ShutClaim, after}
use Rattle.pair_rule.specs.Addresses.{address}
use Rattle.pair_rule.specs.Views as view
use Rattle.pair_rule.specs.Rule.{At}
use Rattle.pair_rule.specs.declared.view.View.{View}
use Rattle.pair_rule.proofs.Core.{laws}
use Rattle.pair_rule.proofs.Bridge.{Held}
use Rattle.pair_rule.proofs.Sides.{stepped_to}
use Rattle.pair_rule.proofs.Calls.{asked}
use Rattle.pair_rule.proofs.SideSteps.{shut_claim_leads}
use Rattle.pair_rule.proofs.pair.Pair.shut_claim_as.Goals as goal

pub fetch_or-requires : goal.fetch_or-requires
fetch_or-requires g c =
    let may = g.C.Content.may in let t = c.self.inside.table.shared in let key = t.key in let L = laws key.geometry c.self.invariant.1 in
    let w : ℕ = c.args.word in let seat = c.args.seat.now in let d : View = seat.me.0 in let h = c.requires.allowed in
    let same_shape : d.geometry ≡ key.geometry = c.requires.pair.1 ∙ sym (ap (λ p. p.key.geometry) c.self.view_is) in
    let X : Shape → Name = λ z. Claim w in
    let found : At → ℕ = λ s. get_or s.words (address key.geometry (Claim w)) 0 in
    asked may key c.self.inside.tables t.table_id c.args.self.now c.self.invariant.0 c.self.invariant.2 c.self.view_is c.self.invariant.1 seat.table_id seat.id seat.me X c.claim_word-index.result
    (λ n. bit_or n c.one_bit.result) (λ n. n) (λ n e. view.shut_claim g.X.Numbers.one (bit_or n (2 ^ 32)) e) (λ _ _. Unit {0}) (step t.table_id.slots c.claim_word-index.result c.one_bit.result 0 none)
    c.requires.pair c.requires.live c.claim_word-index.ensures.value (subst (λ (z : Shape). w < claim_words z) same_shape h.1)
    (λ s r there.
    let led = shut_claim_leads may key L s r seat.id d there c.requires.live w (found s) refl h in (
      _,
      subst (λ (z : ℕ × ℕ). Held may key (stepped_to may key L s (Claim w) (bit_or (found s) z.0) seat.id (view.shut_claim z.1 (bit_or (found s) (2 ^ 32)) d)) (after key.geometry r.core (ShutClaim w)))
          (λ j. (sym c.one_bit.ensures j, c.requires.said j)) led,
      tt,
    ))
