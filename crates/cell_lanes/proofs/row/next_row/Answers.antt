use Rattle.std.proofs.Common.{◌≡◌, ◌∙◌, ◌+◌, ◌-◌, ◌*◌, ◌≤◌, sym, ap, length, subst, slice_index_or, int_div, pos, arith}
use Rattle.stencil_def.specs.Square.{Square, side}
use Rattle.stencil_def.specs.Step.{clamped}
use Rattle.cell_lanes.specs.Window.{sum_at}
use Rattle.cell_lanes.proofs.RowFacts.{row-cells, part-length, part-at, new-values}
use Rattle.cell_lanes.specs.Padding.{new_at, with_ends}
use Rattle.cell_lanes.proofs.BlockFacts.{length-put}
use Rattle.cell_lanes.proofs.PaddedFacts.{all-put}
use Rattle.cell_lanes.proofs.row.next_row.Goals as goal

pub returns-clause-cells : goal.returns-clause-cells
returns-clause-cells c =
    let e = c.reach-reach.ensures.value in
    let whole = c.requires.row in
    let room : c.reach-reach.result + c.args.cols ≤ length c.args.row.now = omega (arith, e, whole) in
    let part = part-length c.args.row.now c.reach-reach.result c.args.cols room in
    let long : length c.new_cells.new.out ≡ c.args.cols = c.new_cells.auto.out ∙ part in
    let value = new-values c.args.rule.now c.args.window.now c.args.cols c.reach-reach.result c.args.divisor.now c.new_cells.new.out e c.requires.divisor
    (λ x h. subst (λ w. slice_index_or c.new_cells.new.out x (pos 0) ≡ clamped (int_div (sum_at w c.args.window.now (c.reach-reach.result + c.args.cols + c.reach-reach.result) x) c.args.divisor.now)) c.requires.weights (c.new_cells.ensures.values x (omega (arith, part, h)))) in
    row-cells c.args.rule.now c.args.cols c.reach-reach.result (λ col. new_at c.args.rule.now c.args.window.now (with_ends c.args.rule.now c.args.cols) col)
    _ c.set_ends.new.row c.set_ends-2.new.row c.requires.cols.0 e
    (λ col h. part-at c.args.row.now c.new_cells.new.out _ c.reach-reach.result col (omega (arith, room)) (omega (arith, long, h)) ∙ value col h)
    c.set_ends.ensures.ends c.set_ends.ensures.above c.set_ends-2.ensures.ends c.set_ends-2.ensures.below

-- the row with its middle put has the length and the limits of the row
pub set_ends-requires-clause-row : goal.set_ends-requires-clause-row
set_ends-requires-clause-row c =
    let a = c.args in
    let reach = c.reach-reach.result in
    let whole = c.requires.row in
    let room : reach + a.cols ≤ length a.row.now = omega (arith, c.reach-reach.ensures.value, whole) in
    let size : reach + a.cols - reach ≡ a.cols = omega arith in
    length-put reach (reach + a.cols - reach) a.row.now c.new_cells.new.out (omega (arith, room)) (c.new_cells.auto.out ∙ part-length a.row.now reach a.cols room ∙ sym size) ∙ whole

pub set_ends-requires-clause-values : goal.set_ends-requires-clause-values
set_ends-requires-clause-values c = all-put _ _ c.args.row.now c.new_cells.new.out c.requires.old c.new_cells.ensures.limits

pub set_ends-requires-2-clause-row : goal.set_ends-requires-2-clause-row
set_ends-requires-2-clause-row c =
    let a = c.args in
    let reach = c.reach-reach.result in
    let whole = c.requires.row in
    let room : reach + a.cols ≤ length a.row.now = omega (arith, c.reach-reach.ensures.value, whole) in
    let size : reach + a.cols - reach ≡ a.cols = omega arith in
    c.set_ends.auto.row ∙ (length-put reach (reach + a.cols - reach) a.row.now c.new_cells.new.out (omega (arith, room)) (c.new_cells.auto.out ∙ part-length a.row.now reach a.cols room ∙ sym size) ∙ whole)

pub set_ends-requires-2-clause-values : goal.set_ends-requires-2-clause-values
set_ends-requires-2-clause-values c = c.set_ends.ensures.values

pub returns-clause-length : goal.returns-clause-length
returns-clause-length c =
    let a = c.args in
    let reach = c.reach-reach.result in
    let whole = c.requires.row in
    let room : reach + a.cols ≤ length a.row.now = omega (arith, c.reach-reach.ensures.value, whole) in
    let size : reach + a.cols - reach ≡ a.cols = omega arith in
    c.set_ends-2.auto.row ∙ (c.set_ends.auto.row ∙ (length-put reach (reach + a.cols - reach) a.row.now c.new_cells.new.out (omega (arith, room)) (c.new_cells.auto.out ∙ part-length a.row.now reach a.cols room ∙ sym size) ∙ whole))

pub new_cells-requires-clause-window : goal.new_cells-requires-clause-window
new_cells-requires-clause-window c =
    let wide : with_ends c.args.rule.now c.args.cols ≡ c.reach-reach.result + c.args.cols + c.reach-reach.result = omega (arith, c.reach-reach.ensures.value) in
    c.requires.window ∙ (ap (λ (w : Square). side w * with_ends c.args.rule.now c.args.cols) (sym c.requires.weights) ∙ ap (λ n. side c.args.weights.now * n) wide)

pub new_cells-requires-clause-out : goal.new_cells-requires-clause-out
new_cells-requires-clause-out c =
    let a = c.args in
    let reach = c.reach-reach.result in
    let whole = c.requires.row in
    let same = ap (λ (w : Square). w.reach) c.requires.weights in
    let part = part-length a.row.now reach a.cols (omega (arith, c.reach-reach.ensures.value, whole)) in
    omega (arith, part, same, c.reach-reach.ensures.value)
