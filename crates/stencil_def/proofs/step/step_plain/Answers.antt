use Rattle.std.proofs.Common.{◌≡◌, ◌∙◌, ◌+◌, ◌*◌, sym, subst, arith}
use Rattle.stencil_def.specs.Limits.{IsValue}
use Rattle.stencil_def.proofs.SumFacts.{value-exact}
use Rattle.stencil_def.proofs.StepFacts.{Filled, filled-none, filled-more, filled-row, filled-all, next-cells}
use Rattle.stencil_def.proofs.step.step_plain.Goals as goal

pub loop-row-init : goal.loop-row-init
loop-row-init c =
    filled-none c.args.grid.now c.args.rule.now c.in_ok-next.next c.rows.result c.cols.result c.in_ok-next.ensures.zeros c.rows.ensures.value c.cols.ensures.value c.in_ok-next.ensures.limits

pub loop-col-init : goal.loop-col-init
loop-col-init c =
    let n = c.loop-row.row * c.args.grid.now.cols in
    let same : n ≡ n + 0 = omega arith in
    subst (Filled c.args.grid.now c.args.rule.now c.loop-row.next) same c.loop-row.invariant

pub set-requires-clause-row : goal.set-requires-clause-row
set-requires-clause-row c =
    let few = c.loop-row-test.true in
    omega (arith, few, c.loop-col.invariant.rows, c.rows-row-end.ensures.value)

pub set-requires-clause-col : goal.set-requires-clause-col
set-requires-clause-col c =
    let few = c.loop-col-test.true in
    omega (arith, few, c.loop-col.invariant.cols, c.cols-col-end.ensures.value)

pub set-requires-clause-value : goal.set-requires-clause-value
set-requires-clause-value c = subst IsValue (sym (value-exact c.new_value.result c.new_value.ensures.limits)) c.new_value.ensures.limits

pub loop-row-preserved : goal.loop-row-preserved
loop-row-preserved c =
    let g = c.args.grid.now in
    let end = c.loop-col-test.false in
    let all : c.loop-col.col ≡ g.cols = omega (arith, end, c.loop-col.auto.col-end, c.cols-col-end.ensures.value) in
    filled-row g c.args.rule.now c.loop-col.next c.loop-row.row
    (subst (λ n. Filled g c.args.rule.now c.loop-col.next (c.loop-row.row * g.cols + n)) all c.loop-col.invariant)

pub loop-col-preserved : goal.loop-col-preserved
loop-col-preserved c =
    filled-more c.args.grid.now c.args.rule.now c.loop-col.next c.set.new.self c.loop-row.row c.loop-col.col _ (omega arith) (omega arith)
    (value-exact c.new_value.result c.new_value.ensures.limits ∙ c.new_value.ensures.value) c.set.ensures.value c.set.ensures.limits c.loop-col.invariant

pub returns-clause-next : goal.returns-clause-next
returns-clause-next c =
    let all : c.loop-row.row ≡ c.args.grid.now.rows = omega arith in
    let f : Filled c.args.grid.now c.args.rule.now c.loop-row.next (c.args.grid.now.rows * c.args.grid.now.cols) = rw all at c.loop-row.invariant in
    filled-all c.args.grid.now c.args.rule.now c.loop-row.next f

pub returns-clause-cells : goal.returns-clause-cells
returns-clause-cells c = rw (returns-clause-next c) (next-cells c.args.grid.now c.args.rule.now)

pub returns-clause-limits : goal.returns-clause-limits
returns-clause-limits c = c.loop-row.invariant.plane
