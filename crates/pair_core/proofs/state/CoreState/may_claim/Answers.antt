use Rattle.std.proofs.Common.{◌/◌, ◌%◌, ℕ, refl, sym, ap, true≢false, arith}
use Rattle.std.proofs.lemmas.Bool.{eq-eqb, eqb-true}
use Rattle.pair_core.specs.Words.{bit}
use Rattle.pair_core.specs.Names.{Claim}
use Rattle.pair_core.proofs.Cut.{claim_word}
use Rattle.pair_core.proofs.state.CoreState.may_claim.Goals as goal

pub returns-then-bit_of-ne0 : goal.returns-then-bit_of-ne0
returns-then-bit_of-ne0 c = λ core n shows there.
    let seen = c.seen-word.ensures core n (Claim (c.args.p / 32)) shows there (claim_word c.args.self.now.tables c.args.p c.requires.part) refl in
    let e = ap (λ (w : ℕ). bit w 32) seen in
    (λ no. absurd (true≢false (sym no)), λ may. let zero = may.0 in absurd (omega (arith, c.bit_of.ensures)))

pub returns : goal.returns
returns c = λ core n shows there.
    let seen = c.seen-word.ensures core n (Claim (c.args.p / 32)) shows there (claim_word c.args.self.now.tables c.args.p c.requires.part) refl in
    let e = ap (λ (w : ℕ). bit w 32) seen in let b = ap (λ (w : ℕ). bit w (c.args.p % 32)) seen in (
      λ so. let zero = eqb-true c.bit_of-2.result 0 so in (omega (arith, c.bit_of.ensures), omega (arith, c.bit_of-2.ensures)),
      λ may. let zero = may.1 in eq-eqb c.bit_of-2.result 0 (omega (arith, c.bit_of-2.ensures)),
    )
