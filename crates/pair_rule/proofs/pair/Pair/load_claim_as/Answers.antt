use Rattle.std.proofs.Common.{◌≡◌, ℕ, ◌<◌, get_or, refl, sym, ap, ◌∙◌, subst}
use mathlib.Core.Option.{none}
use Rattle.atomic_table.specs.Table.{step}
use Rattle.part_geometry.specs.Shape.{Shape}
use Rattle.pair_core.specs.Names.{Name, Claim, claim_words}
use Rattle.pair_core.specs.Moves.{LoadClaim, after}
use Rattle.pair_rule.specs.Addresses.{address}
use Rattle.pair_rule.specs.Views as view
use Rattle.pair_rule.specs.Rule.{At}
use Rattle.pair_rule.specs.Told.{Learns}
use Rattle.pair_rule.specs.declared.view.View.{View}
use Rattle.pair_rule.proofs.Core.{laws}
use Rattle.pair_rule.proofs.Bridge.{Held}
use Rattle.pair_rule.proofs.Sides.{stepped_to}
use Rattle.pair_rule.proofs.Calls.{asked}
use Rattle.pair_rule.proofs.SideSteps.{load_claim_leads}
use Rattle.pair_rule.proofs.pair.Pair.load_claim_as.Goals as goal

pub load-requires : goal.load-requires
load-requires g c =
    let may = g.C.Content.may in let t = c.self.inside.table.shared in let key = t.key in let L = laws key.geometry c.self.invariant.1 in
    let w : ℕ = c.args.word in let seat = c.args.seat.now in let d : View = seat.me.0 in
    let same_shape : d.geometry ≡ key.geometry = c.requires.pair.1 ∙ sym (ap (λ p. p.key.geometry) c.self.view_is) in
    let X : Shape → Name = λ z. Claim w in
    let found : At → ℕ = λ s. get_or s.words (address key.geometry (X key.geometry)) 0 in
    asked may key c.self.inside.tables t.table_id c.args.self.now c.self.invariant.0 c.self.invariant.2 c.self.view_is c.self.invariant.1 seat.table_id seat.id seat.me X c.claim_word-index.result
    (λ n. n) (λ n. n) (λ n e. view.saw (Claim g.X.Numbers.one) n e) (λ n e. Learns e (Claim g.X.Numbers.one) n) (step t.table_id.slots c.claim_word-index.result 0 0 none)
    c.requires.pair c.requires.live c.claim_word-index.ensures.value (subst (λ (z : Shape). w < claim_words z) same_shape c.requires.word)
    (λ s r there.
    let led = load_claim_leads may key L s r seat.id d there c.requires.live d.number w _ refl (refl, c.requires.word) in
    let told = subst (λ (z : ℕ). Held may key (stepped_to may key L s (Claim w) (found s) seat.id (view.saw (Claim z) (found s) d)) (after key.geometry r.core (LoadClaim d.number w)) × Learns d (Claim z) (found s)) c.requires.said led in (_, told.0, told.1))
