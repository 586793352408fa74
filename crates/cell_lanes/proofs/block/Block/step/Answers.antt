use Rattle.std.proofs.Common.{◌≡◌, ◌∙◌, sym, ap, subst, List, ℤ, length}
use Rattle.stencil_def.specs.Step.{next_plane}
use Rattle.cell_lanes.specs.Block.{Part, Holds, HoldsOwn, IsInside, IsPart, part_of}
use Rattle.cell_lanes.proofs.FoldFacts.{lent-whole}
use Rattle.cell_lanes.proofs.block.Block.step.Goals as goal

pub next_own-requires-clause-part : goal.next_own-requires-clause-part
next_own-requires-clause-part c =
    let i = c.self.inside in
    subst (λ (xs : List ℤ). IsPart (part_of i.rows i.cols i.reach xs)) (sym c.deref.ensures.value) c.self.invariant.0

pub next_own-requires-clause-next : goal.next_own-requires-clause-next
next_own-requires-clause-next c =
    let i = c.self.inside in
    subst (λ (xs : List ℤ). IsPart (part_of i.rows i.cols i.reach xs)) (sym c.deref_mut.ensures.value) c.self.invariant.1

pub next_own-requires-clause-reach : goal.next_own-requires-clause-reach
next_own-requires-clause-reach c = c.requires.reach ∙ sym (ap (λ (b : Part). b.reach) c.self.view_is)

pub returns-clause-own : goal.returns-clause-own
returns-clause-own c g rule top left weights div holds inside =
    let i = c.self.inside in
    let same : length c.next_own.new.next ≡ length i.next.items = c.next_own.auto.next ∙ ap length c.deref_mut.ensures.value in
    let x : c.swap.new.x.items ≡ c.next_own.new.next = ap (λ v. v.items) c.swap.ensures.x_after ∙ lent-whole i.next.items c.next_own.new.next _ i.next.ok.0 same in
    let was : part_of i.rows i.cols i.reach c.deref.result.now ≡ c.args.self.now = ap (part_of i.rows i.cols i.reach) c.deref.ensures.value ∙ c.self.view_is in
    subst (λ (xs : List ℤ). HoldsOwn (next_plane g rule) top left (part_of i.rows i.cols i.reach xs)) (sym x)
    (c.next_own.ensures.own g rule top left weights div (subst (Holds g rule top left) (sym was) holds) (subst (IsInside g top left) (sym was) inside))

pub returns-clause-size : goal.returns-clause-size
returns-clause-size c = record {
  rows = ap (λ (b : Part). b.rows) c.self.view_is;
  cols = ap (λ (b : Part). b.cols) c.self.view_is;
  reach = ap (λ (b : Part). b.reach) c.self.view_is;
}

pub returns-clause-limits : goal.returns-clause-limits
returns-clause-limits c =
    let i = c.self.inside in
    let same : length c.next_own.new.next ≡ length i.next.items = c.next_own.auto.next ∙ ap length c.deref_mut.ensures.value in
    let x : c.swap.new.x.items ≡ c.next_own.new.next = ap (λ v. v.items) c.swap.ensures.x_after ∙ lent-whole i.next.items c.next_own.new.next _ i.next.ok.0 same in
    subst (λ (xs : List ℤ). IsPart (part_of i.rows i.cols i.reach xs)) (sym x) c.next_own.ensures.limits

pub invariant_of-self : goal.invariant_of-self
invariant_of-self c =
    let i = c.self.inside in
    let same : length c.next_own.new.next ≡ length i.next.items = c.next_own.auto.next ∙ ap length c.deref_mut.ensures.value in
    let x : c.swap.new.x.items ≡ c.next_own.new.next = ap (λ v. v.items) c.swap.ensures.x_after ∙ lent-whole i.next.items c.next_own.new.next _ i.next.ok.0 same in
    let y : c.swap.new.y.items ≡ i.values.items = ap (λ v. v.items) c.swap.ensures.y_after in (
      subst (λ (xs : List ℤ). IsPart (part_of i.rows i.cols i.reach xs)) (sym x) c.next_own.ensures.limits,
      subst (λ (xs : List ℤ). IsPart (part_of i.rows i.cols i.reach xs)) (sym y) c.self.invariant.0,
    )
