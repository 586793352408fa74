use Rattle.std.proofs.Common.{◌<◌, refl, sym, subst, pos, get_or, length, arith}
use Rattle.stencil_def.specs.Limits.{IsValue}
use Rattle.stencil_def.proofs.SumFacts.{value-exact}
use Rattle.cell_lanes.proofs.PaddedFacts.{row-taken-next}
use Rattle.cell_lanes.proofs.padded.set_row.Goals as goal

pub loop-col-init : goal.loop-col-init
loop-col-init c = record {
  rows = refl;
  cols = refl;
  plane = c.cols-col-end.ensures.limits;
  done = λ k h. absurd (omega (arith, h));
  below = λ k h. refl;
}

pub set-requires-clause-row : goal.set-requires-clause-row
set-requires-clause-row c = omega (arith, c.loop-col.invariant.rows, c.requires.row)

pub set-requires-clause-col : goal.set-requires-clause-col
set-requires-clause-col c = omega (arith, c.loop-col.invariant.cols, c.loop-col-test.true, c.cols-col-end.ensures.value)

pub set-requires-clause-value : goal.set-requires-clause-value
set-requires-clause-value c =
    let less : c.loop-col.col < length c.args.cells.now = omega (arith, c.loop-col-test.true, c.cols-col-end.ensures.value, c.requires.length) in
    let fine = c.requires.values c.loop-col.col (pos 0) less in
    subst IsValue (sym (value-exact (get_or c.args.cells.now c.loop-col.col (pos 0)) fine)) fine

pub loop-col-preserved : goal.loop-col-preserved
loop-col-preserved c =
    let less : c.loop-col.col < length c.args.cells.now = omega (arith, c.loop-col-test.true, c.cols-col-end.ensures.value, c.requires.length) in
    row-taken-next c.args.grid.now c.loop-col.grid c.set.new.self c.args.row c.loop-col.col c.args.cells.now _ c.loop-col.invariant c.requires.row
    (omega (arith, c.loop-col-test.true, c.cols-col-end.ensures.value)) (value-exact (get_or c.args.cells.now c.loop-col.col (pos 0)) (c.requires.values c.loop-col.col (pos 0) less))
    c.set.ensures.value c.set.ensures.limits

pub returns-clause-row : goal.returns-clause-row
returns-clause-row c col less = c.loop-col.invariant.done col (omega (arith, less, c.loop-col-test.false, c.cols-col-end.ensures.value))

pub returns-clause-below : goal.returns-clause-below
returns-clause-below c = c.loop-col.invariant.below
