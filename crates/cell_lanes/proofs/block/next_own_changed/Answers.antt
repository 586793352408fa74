use Rattle.std.proofs.Common.{◌≡◌, ◌∙◌, ap, pos, to_z, w64, arith}
use Rattle.std.proofs.lemmas.Int.{ints}
use Rattle.stencil_def.specs.Step.{next_plane}
use Rattle.cell_lanes.specs.Block.{part_of}
use Rattle.cell_lanes.specs.Change.{change_within}
use Rattle.cell_lanes.proofs.BlockFacts.{own-held}
use Rattle.cell_lanes.proofs.ChangeFacts.{change-kept, change-more, rows-none}
use Rattle.cell_lanes.proofs.block.next_own_changed.Goals as goal

pub loop-row-init : goal.loop-row-init
loop-row-init c = record {
  own = λ g rule top left weights div holds inside row col less l. absurd (omega arith);
  change = λ g rule top left weights div holds inside. rows-none g (next_plane g rule) top left c.args.cols;
  range = (omega (arith, ints), omega (arith, ints));
  limits = c.requires.next;
}

pub loop-row-preserved : goal.loop-row-preserved
loop-row-preserved c =
    let a = c.args in
    let i = c.loop-row.invariant in
    let row = c.row_change.ensures in
    let most = to_z w64 c.loop-row.most-bits in
    record {
      own = λ g rule top left weights div holds inside. c.next_own_row.ensures.own g rule top left weights div holds inside (i.own g rule top left weights div holds inside);
      change = λ g rule top left weights div holds inside.
          let done = c.next_own_row.ensures.own g rule top left weights div holds inside (i.own g rule top left weights div holds inside) in
          change-more g (next_plane g rule) top left a.cols c.loop-row.row most c.row_change.result c.max-most.result i.range row.limits
          (i.change g rule top left weights div holds inside)
          (row.change g (next_plane g rule) top left (own-held g rule top left c.loop-row.row (part_of a.rows a.cols a.reach a.values.now) holds inside c.loop-row-test.true)
          (λ col l. done c.loop-row.row col (omega arith) l))
          c.max-most.ensures;
      range = change-kept most c.row_change.result c.max-most.result i.range row.limits c.max-most.ensures;
      limits = c.next_own_row.ensures.limits;
    }

pub next_own_row-requires-clause-part : goal.next_own_row-requires-clause-part
next_own_row-requires-clause-part c = c.requires.part

pub next_own_row-requires-clause-next : goal.next_own_row-requires-clause-next
next_own_row-requires-clause-next c = c.loop-row.invariant.limits

pub row_change-requires-clause-old : goal.row_change-requires-clause-old
row_change-requires-clause-old c = c.requires.part

pub row_change-requires-clause-new : goal.row_change-requires-clause-new
row_change-requires-clause-new c = c.next_own_row.ensures.limits

-- all rows are done
pub returns-clause-own : goal.returns-clause-own
returns-clause-own c g rule top left weights div holds inside row col less l =
    c.loop-row.invariant.own g rule top left weights div holds inside row col (omega (arith, less, c.loop-row-test.false)) l

pub returns-clause-change : goal.returns-clause-change
returns-clause-change c g rule top left weights div holds inside =
    let all : c.loop-row.row ≡ c.args.rows = let h = c.loop-row-test.false in let k = c.loop-row.auto.row-end in omega arith in
    c.loop-row.invariant.change g rule top left weights div holds inside
    ∙ ap (λ n. pos (change_within g (next_plane g rule) top n left c.args.cols)) all
