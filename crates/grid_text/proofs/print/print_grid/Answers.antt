use Rattle.grid_text.specs.Printing.{grid_text, row_text}
use Rattle.stencil_def.specs.Plane.{row_of}
use Rattle.std.proofs.Common.{arith, ◌≡◌, ◌∙◌, ap, List, ℕ, ◌++◌, length, sym}
use Rattle.grid_text.proofs.PrintFacts.{rows-more}
use Rattle.grid_text.proofs.PrintedGrid.{grid-back, row-length}
use Rattle.grid_text.proofs.print.print_grid.Goals as goal

pub loop-row-preserved : goal.loop-row-preserved
loop-row-preserved c =
    rw c.row.ensures.values at c.in_ok-push_row.ensures ∙ (ap (λ (front : List ℕ). front ++ row_text (row_of c.args.grid.now c.loop-row.row)) c.loop-row.invariant
    ∙ sym (rows-more (λ row. row_text (row_of c.args.grid.now row)) c.loop-row.row))

pub returns-clause-text : goal.returns-clause-text
unfolding grid_text
returns-clause-text c =
    let rows = c.rows-row-end.ensures.value in
    let all : c.loop-row.row ≡ c.args.grid.now.rows = omega arith in
    rw all at c.loop-row.invariant

pub returns-clause-back : goal.returns-clause-back
returns-clause-back c = rw (returns-clause-text c) (grid-back c.args.grid.now c.values.ensures.limits)

pub overflow_mul-least : goal.overflow_mul-least
overflow_mul-least c =
    let limits = c.values.ensures.limits in
    omega (arith, ap length c.values.ensures.values, limits.length, limits.cells)

pub push_row-requires : goal.push_row-requires
push_row-requires c =
    let limits = c.row.ensures.limits in
    let within = c.rows-row-end.ensures.value in
    let len = row-length c.args.grid.now c.loop-row.row limits (omega arith) in
    omega (arith, ap length c.row.ensures.values, len, limits.cols.0)
