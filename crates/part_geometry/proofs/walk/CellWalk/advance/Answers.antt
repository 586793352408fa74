use Rattle.std.proofs.Common.{sym, ◌∙◌}
use Rattle.part_geometry.proofs.WalkFacts.{at_total, before_total, no_next, stays}
use Rattle.part_geometry.proofs.walk.CellWalk.advance.Goals as goal

pub returns-then-self-total-clause-cell : goal.returns-then-self-total-clause-cell
returns-then-self-total-clause-cell c =
    rw (← c.self.view_is) (sym (no_next _ _ (at_total _ _ c.self.invariant (c.if-self-total.true ∙ c.total.ensures.value))))

pub cell-cell-requires-clause-inside : goal.cell-cell-requires-clause-inside
cell-cell-requires-clause-inside c =
    before_total _ _ c.self.invariant (λ e. c.if-self-total.false (e ∙ sym c.total.ensures.value))

pub returns-then-self-total-clause-walk : goal.returns-then-self-total-clause-walk
returns-then-self-total-clause-walk c =
    rw (← c.self.view_is) (sym (stays _ _ (at_total _ _ c.self.invariant (c.if-self-total.true ∙ c.total.ensures.value))))

pub after-self-inside-requires-clause-inside : goal.after-self-inside-requires-clause-inside
after-self-inside-requires-clause-inside c =
    before_total _ _ c.self.invariant (λ e. c.if-self-total.false (e ∙ sym c.total.ensures.value))
