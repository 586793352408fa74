use Rattle.std.proofs.Common.{◌≡◌, ◌∙◌, sym, ap, subst, length, arith}
use Rattle.cell_lanes.specs.Block.{Part, HoldsMiddle, HoldsRow, IsPart, SameRow, part_of}
use Rattle.cell_lanes.proofs.FoldFacts.{lent-whole}
use Rattle.cell_lanes.proofs.block.Block.set_ends.Goals as goal

pub set_all_ends-requires-clause-part : goal.set_all_ends-requires-clause-part
set_all_ends-requires-clause-part c =
    let i = c.self.inside in
    let r = c.requires.reach ∙ sym (ap (λ (b : Part). b.reach) c.self.view_is) in
    let same : part_of i.rows i.cols c.args.rule.now.weights.reach c.deref_mut.result.now ≡ part_of i.rows i.cols i.reach i.values.items =
    ap (λ k. part_of i.rows i.cols k c.deref_mut.result.now) r ∙ ap (part_of i.rows i.cols i.reach) c.deref_mut.ensures.value in
    subst IsPart (sym same) c.self.invariant.0

pub set_all_ends-requires-clause-end : goal.set_all_ends-requires-clause-end
set_all_ends-requires-clause-end c =
    let rows = ap (λ (b : Part). b.rows) c.self.view_is in
    omega (arith, rows, c.requires.reach, c.requires.end)

pub returns-clause-ends : goal.returns-clause-ends
returns-clause-ends c g top y same from to middle =
    let i = c.self.inside in
    let rule = c.args.rule.now in
    let r = c.requires.reach ∙ sym (ap (λ (b : Part). b.reach) c.self.view_is) in
    let was : part_of i.rows i.cols rule.weights.reach c.deref_mut.result.now ≡ c.args.self.now =
    ap (λ k. part_of i.rows i.cols k c.deref_mut.result.now) r ∙ (ap (part_of i.rows i.cols i.reach) c.deref_mut.ensures.value ∙ c.self.view_is) in
    let whole = lent-whole i.values.items c.set_all_ends.new.values _ i.values.ok.0 (c.set_all_ends.auto.values ∙ ap length c.deref_mut.ensures.value) in
    let is = ap (λ k. part_of i.rows i.cols k c.set_all_ends.new.values) r ∙ ap (part_of i.rows i.cols i.reach) (sym whole) in
    subst (HoldsRow g rule top y) is
    (c.set_all_ends.ensures.ends g top y (same ∙ sym (ap (λ (b : Part). b.cols) c.self.view_is)) from to (subst (HoldsMiddle g rule top y) (sym was) middle))

pub returns-clause-rest : goal.returns-clause-rest
returns-clause-rest c y away =
    let i = c.self.inside in
    let rule = c.args.rule.now in
    let r = c.requires.reach ∙ sym (ap (λ (b : Part). b.reach) c.self.view_is) in
    let was : part_of i.rows i.cols rule.weights.reach c.deref_mut.result.now ≡ c.args.self.now =
    ap (λ k. part_of i.rows i.cols k c.deref_mut.result.now) r ∙ (ap (part_of i.rows i.cols i.reach) c.deref_mut.ensures.value ∙ c.self.view_is) in
    let whole = lent-whole i.values.items c.set_all_ends.new.values _ i.values.ok.0 (c.set_all_ends.auto.values ∙ ap length c.deref_mut.ensures.value) in
    let is = ap (λ k. part_of i.rows i.cols k c.set_all_ends.new.values) r ∙ ap (part_of i.rows i.cols i.reach) (sym whole) in
    subst (SameRow y c.args.self.now) is
    (subst (λ (b : Part). SameRow y b (part_of i.rows i.cols rule.weights.reach c.set_all_ends.new.values)) was (c.set_all_ends.ensures.rest y away))

pub returns-clause-size : goal.returns-clause-size
returns-clause-size c = record {
  rows = ap (λ (b : Part). b.rows) c.self.view_is;
  cols = ap (λ (b : Part). b.cols) c.self.view_is;
  reach = ap (λ (b : Part). b.reach) c.self.view_is;
}

pub returns-clause-limits : goal.returns-clause-limits
returns-clause-limits c =
    let i = c.self.inside in
    let r = c.requires.reach ∙ sym (ap (λ (b : Part). b.reach) c.self.view_is) in
    let whole = lent-whole i.values.items c.set_all_ends.new.values _ i.values.ok.0 (c.set_all_ends.auto.values ∙ ap length c.deref_mut.ensures.value) in
    subst IsPart (ap (λ k. part_of i.rows i.cols k c.set_all_ends.new.values) r ∙ ap (part_of i.rows i.cols i.reach) (sym whole)) c.set_all_ends.ensures.limits

pub invariant_of-self : goal.invariant_of-self
invariant_of-self c =
    let i = c.self.inside in
    let r = c.requires.reach ∙ sym (ap (λ (b : Part). b.reach) c.self.view_is) in
    let whole = lent-whole i.values.items c.set_all_ends.new.values _ i.values.ok.0 (c.set_all_ends.auto.values ∙ ap length c.deref_mut.ensures.value) in (
      subst IsPart (ap (λ k. part_of i.rows i.cols k c.set_all_ends.new.values) r ∙ ap (part_of i.rows i.cols i.reach) (sym whole)) c.set_all_ends.ensures.limits,
      c.self.invariant.1,
    )
