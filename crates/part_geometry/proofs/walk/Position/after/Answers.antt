use Rattle.std.proofs.Common.{◌≡◌, ◌+◌, sym, subst, ◌∙◌, arith}
use Rattle.part_geometry.proofs.WalkFacts.{small, end-before, before_open, before_closed, next_of, opened_of}
use Rattle.part_geometry.specs.Walk.{IsBefore}
use Rattle.part_geometry.proofs.walk.Position.after.Goals as goal

pub closes-closed-requires-clause-end : goal.closes-closed-requires-clause-end
closes-closed-requires-clause-end c = c.min-end.ensures ∙ end-before _ _ c.requires.before c.requires.inside

pub overflow_add-next : goal.overflow_add-next
overflow_add-next c = let s = small _ _ c.requires.before c.requires.inside in omega arith

pub passed-requires-clause-part : goal.passed-requires-clause-part
passed-requires-clause-part c = (small _ _ c.requires.before c.requires.inside).send

pub passed-requires-clause-end : goal.passed-requires-clause-end
passed-requires-clause-end c = (small _ _ c.requires.before c.requires.inside).send_end

pub passed-requires-2-clause-part : goal.passed-requires-2-clause-part
passed-requires-2-clause-part c = (small _ _ c.requires.before c.requires.inside).recv

pub passed-requires-2-clause-end : goal.passed-requires-2-clause-end
passed-requires-2-clause-end c = (small _ _ c.requires.before c.requires.inside).recv_end

pub opened-requires : goal.opened-requires
opened-requires c = (small _ _ c.requires.before c.requires.inside).piece

pub returns-then-closed-clause-before : goal.returns-then-closed-clause-before
returns-then-closed-clause-before c =
    let g = c.args.g in let p = c.args.self in
    let e = c.min-end.ensures ∙ end-before g p c.requires.before c.requires.inside in
    let same : opened_of (next_of g p) ≡ c.opened.result = cc in
    subst (IsBefore g) same (before_closed g p c.requires.before c.requires.inside (sym c.closes-closed.ensures ∙ c.if-closed.true))

pub returns-else-closed-clause-before : goal.returns-else-closed-clause-before
returns-else-closed-clause-before c =
    let g = c.args.g in let p = c.args.self in
    let e = c.min-end.ensures ∙ end-before g p c.requires.before c.requires.inside in
    let same : next_of g p ≡ record p { place = p.place + 1; start = c.min-end.result; send = c.passed.result; recv = c.passed-2.result } = cc in
    subst (IsBefore g) same (before_open g p c.requires.before c.requires.inside (sym c.closes-closed.ensures ∙ c.if-closed.false))
