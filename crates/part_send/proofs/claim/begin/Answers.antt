use Rattle.std.proofs.Common.{◌≡◌, ℕ, ◌-◌, ◌/◌, ◌<◌, sym, ap, ◌∙◌, subst, arith}
use Rattle.pair_core.specs.Names.{Claim, claim_words}
use Rattle.pair_rule.specs.Views.{seen}
use Rattle.pair_rule.specs.declared.view.View.{View}
use Rattle.part_send.proofs.Winning.{saw_none}
use Rattle.part_send.proofs.claim.begin.Goals as goal

pub returns-then-is_ok-clause-seat : goal.returns-then-is_ok-clause-seat
returns-then-is_ok-clause-seat g c =
    let s = c.args.seat.now in let p : ℕ = c.args.partition in let n : ℕ = c.args.steps.now - c.args.steps.now in
    let same : c.args.told.now.number ≡ p / 32 = c.if-told-number.true in
    let there : p / 32 < claim_words s.view.geometry = (let low = c.requires.part in omega arith) in
    let inside : c.args.told.now.number < claim_words s.view.geometry = subst (λ (z : ℕ). z < claim_words s.view.geometry) (sym same) there in
    let word : c.args.told.now.word ≡ seen s.view (Claim (p / 32)) = sym (c.requires.told inside) ∙ ap (λ (z : ℕ). seen s.view (Claim z)) same in
    ap (λ (d : View). record s { view = d }) (sym (saw_none s.view (Claim (p / 32)) n c.args.told.now.word (omega arith) word))
