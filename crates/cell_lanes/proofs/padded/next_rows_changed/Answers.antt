use Rattle.std.proofs.Common.{◌≡◌, ◌∙◌, sym, ap, pos, to_z, w64, arith}
use Rattle.std.proofs.lemmas.Int.{ints}
use Rattle.stencil_def.specs.Step.{next_plane}
use Rattle.cell_lanes.specs.Change.{change_within}
use Rattle.cell_lanes.proofs.ChangeFacts.{change-kept, change-more, computed-held, padded-held, rows-none}
use Rattle.cell_lanes.proofs.padded.next_rows_changed.Goals as goal

pub loop-row-init : goal.loop-row-init
loop-row-init c = record {
  rows = λ g e f padded row x less lt. absurd (omega arith);
  change = λ g e f padded. rows-none g (next_plane g c.args.rule.now) 0 0 c.args.cols;
  range = (omega (arith, ints), omega (arith, ints));
  limits = c.requires.next_values;
}

pub loop-row-preserved : goal.loop-row-preserved
loop-row-preserved c =
    let a = c.args in
    let rule = a.rule.now in
    let n = c.loop-row.row in
    let i = c.loop-row.invariant in
    let row = c.row_change.ensures in
    let reach = c.reach-reach.ensures.value in
    let most = to_z w64 c.loop-row.most-bits in
    record {
      rows = λ g e f padded. c.put_next_row.ensures.rows g e f padded (i.rows g e f padded);
      change = λ g e f padded.
          let done = c.put_next_row.ensures.rows g e f padded (i.rows g e f padded) in
          let less = c.loop-row-test.true in
          change-more g (next_plane g rule) 0 0 a.cols n most c.row_change.result c.max-most.result i.range row.limits (i.change g e f padded)
          (row.change g (next_plane g rule) 0 0 (padded-held g rule a.rows a.cols n c.reach-reach.result a.values.now reach padded less f)
          (computed-held g rule a.rows a.cols n c.reach-reach.result c.put_next_row.new.next reach done (omega (arith, less, e)) f))
          c.max-most.ensures;
      range = change-kept most c.row_change.result c.max-most.result i.range row.limits c.max-most.ensures;
      limits = c.put_next_row.ensures.values;
    }

-- all rows and columns are those of the grid
pub returns-clause-change : goal.returns-clause-change
returns-clause-change c g e f padded =
    let all : c.loop-row.row ≡ g.rows = let h = c.loop-row-test.false in let k = c.loop-row.auto.row-end in omega arith in
    c.loop-row.invariant.change g e f padded
    ∙ ap (λ n. pos (change_within g (next_plane g c.args.rule.now) 0 n 0 c.args.cols)) all
    ∙ ap (λ n. pos (change_within g (next_plane g c.args.rule.now) 0 g.rows 0 n)) (sym f)
