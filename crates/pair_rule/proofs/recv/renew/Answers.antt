use Rattle.std.proofs.Common.{◌≡◌, ⊎_elim, ℕ, suc, length, ◌+◌, ◌-◌, ◌*◌, ◌≤◌, false, inl, inr, sym, ap, ◌∙◌, arith}
use Rattle.std.proofs.lemmas.Bool.{cases_lt}
use Rattle.slot_rows.specs.Lanes.{flagged}
use Rattle.pair_rule.specs.Parts.{untaken}
use Rattle.pair_rule.proofs.LanesKept.{untaken_none, untaken_more, untaken_all}
use Rattle.pair_rule.proofs.recv.renew.Goals as goal

pub loop-at-init : goal.loop-at-init
loop-at-init c =
    let from : ℕ = c.args.word * 32 in let zero' : from - from ≡ 0 = omega arith in
    record {
      lanes = sym (ap (λ (z : ℕ). untaken from z c.args.lanes.now) zero' ∙ untaken_none from c.args.lanes.now);
      from = omega arith;
      most = omega arith;
    }

pub loop-at-preserved : goal.loop-at-preserved
loop-at-preserved c =
    let from : ℕ = c.args.word * 32 in let at : ℕ = c.loop-at.at in let n : ℕ = at - from in let i = c.loop-at.invariant in let ls = c.args.lanes.now in
    let low = i.from in let small = c.loop-at-test.true in let to = c.min-to.ensures in
    let more : at + 1 - from ≡ suc n = omega arith in
    record {
      lanes = c.set_flags.ensures ∙ (ap (flagged false false at) i.lanes ∙ (untaken_more from n at ls (omega arith) ∙ ap (λ (z : ℕ). untaken from z ls) (sym more)));
      from = omega arith;
      most = omega arith;
    }

pub returns : goal.returns
returns c =
    let from : ℕ = c.args.word * 32 in let at : ℕ = c.loop-at.at in let n : ℕ = at - from in let i = c.loop-at.invariant in let ls = c.args.lanes.now in
    let low = i.from in let most = i.most in let end = c.loop-at-test.false in let to = c.min-to.ensures in
    let turned : from ≡ 32 * c.args.word = omega arith in
    i.lanes ∙ (⊎_elim
    (λ (full : n ≡ 32). ap (λ (z : ℕ). untaken from z ls) full)
    (λ (all : length ls ≤ from + n). untaken_all from n 32 ls all most)
    (elim (cases_lt n 32) [
      | inl less ↦ inr (omega arith)
      | inr more ↦ inl (omega arith)
    ])
    ∙ ap (λ (z : ℕ). untaken z 32 ls) turned)
