use Rattle.std.proofs.Common.{◌≡◌, ◌∙◌, sym, ap, ◌+◌, length, arith}
use Rattle.cell_lanes.specs.Block.{Part}
use Rattle.stencil_def.specs.Plane.{row_of}
use Rattle.halo_plan.specs.Plan.{first_row}
use Rattle.rank_task.proofs.GridFacts.{fill-next, length-row}
use Rattle.rank_task.proofs.serial_blocks.block_of.Goals as goal

pub loop-row-preserved : goal.loop-row-preserved
loop-row-preserved c =
    let p = c.args.plan.now in let g = c.args.grid.now in
    let i = c.loop-row.invariant in let s = i.size in
    let put = c.put.ensures.put in
    let first : c.block-first.result.0 ≡ first_row p c.args.i = ap (λ x. x.0) c.block-first.ensures.value in
    let last : c.block-first.result.1 ≡ first_row p (c.args.i + 1) = ap (λ x. x.1) c.block-first.ensures.value in
    let inside = c.block-first.ensures.inside in
    let less = c.loop-row-test.true in
    let many = s.rows in let wide = s.cols in
    let cells = c.row.ensures.values ∙ ap (λ n. row_of g (n + c.loop-row.row)) first in
    let rows = c.requires.rows in let cols = c.requires.cols in
    record {
      size = record {
        rows = ap (λ (q : Part). q.rows) put ∙ s.rows;
        cols = ap (λ (q : Part). q.cols) put ∙ s.cols;
        reach = ap (λ (q : Part). q.reach) put ∙ s.reach;
        limits = c.put.ensures.limits;
      };
      own = fill-next p g c.args.i c.loop-row.row c.reach-reach.result c.loop-row.block c.put.new.self c.row.result.now s i.own put c.reach-reach.ensures.value cells
          (ap length cells ∙ length-row g (first_row p c.args.i + c.loop-row.row) c.row.ensures.limits.length (omega arith) ∙ cols ∙ sym wide)
          (cols ∙ sym wide) (omega arith) c.put.ensures.limits;
    }
