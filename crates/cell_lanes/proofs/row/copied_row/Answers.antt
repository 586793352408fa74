use Rattle.std.proofs.Common.{◌≡◌, ◌∙◌, ◌+◌, ◌-◌, ◌≤◌, sym, ap, pos, get_or, length, arith}
use Rattle.cell_lanes.proofs.RowFacts.{row-cells, part-at}
use Rattle.cell_lanes.proofs.BlockFacts.{length-put}
use Rattle.cell_lanes.proofs.PaddedFacts.{all-put}
use Rattle.cell_lanes.proofs.row.copied_row.Goals as goal

pub returns-clause-cells : goal.returns-clause-cells
returns-clause-cells c =
    let e = c.reach-reach.ensures.value in
    let whole = c.requires.row in
    let room : c.reach-reach.result + c.args.cols ≤ length c.args.row.now = omega (arith, e, whole) in
    let same = c.put_values.ensures.same in
    let long : length c.put_values.new.part ≡ c.args.cols = ap length same ∙ c.requires.cells in
    row-cells c.args.rule.now c.args.cols c.reach-reach.result (λ col. get_or c.args.cells.now col (pos 0))
    _ c.set_ends.new.row c.set_ends-2.new.row c.requires.cols.0 e
    (λ col h. part-at c.args.row.now c.put_values.new.part _ c.reach-reach.result col (omega (arith, room)) (omega (arith, long, h)) ∙ ap (λ l. get_or l col (pos 0)) same)
    c.set_ends.ensures.ends c.set_ends.ensures.above c.set_ends-2.ensures.ends c.set_ends-2.ensures.below

-- the row with its middle put has the length and the limits of the row
pub set_ends-requires-clause-row : goal.set_ends-requires-clause-row
set_ends-requires-clause-row c =
    let a = c.args in
    let reach = c.reach-reach.result in
    let whole = c.requires.row in
    let room : reach + a.cols ≤ length a.row.now = omega (arith, c.reach-reach.ensures.value, whole) in
    let size : reach + a.cols - reach ≡ a.cols = omega arith in
    length-put reach (reach + a.cols - reach) a.row.now c.put_values.new.part (omega (arith, room)) (ap length c.put_values.ensures.same ∙ c.requires.cells ∙ sym size) ∙ whole

pub set_ends-requires-clause-values : goal.set_ends-requires-clause-values
set_ends-requires-clause-values c = all-put _ _ c.args.row.now c.put_values.new.part c.requires.old c.put_values.ensures.values

pub set_ends-requires-2-clause-row : goal.set_ends-requires-2-clause-row
set_ends-requires-2-clause-row c =
    let a = c.args in
    let reach = c.reach-reach.result in
    let whole = c.requires.row in
    let room : reach + a.cols ≤ length a.row.now = omega (arith, c.reach-reach.ensures.value, whole) in
    let size : reach + a.cols - reach ≡ a.cols = omega arith in
    c.set_ends.auto.row ∙ (length-put reach (reach + a.cols - reach) a.row.now c.put_values.new.part (omega (arith, room)) (ap length c.put_values.ensures.same ∙ c.requires.cells ∙ sym size) ∙ whole)

pub set_ends-requires-2-clause-values : goal.set_ends-requires-2-clause-values
set_ends-requires-2-clause-values c = c.set_ends.ensures.values

pub returns-clause-length : goal.returns-clause-length
returns-clause-length c =
    let a = c.args in
    let reach = c.reach-reach.result in
    let whole = c.requires.row in
    let room : reach + a.cols ≤ length a.row.now = omega (arith, c.reach-reach.ensures.value, whole) in
    let size : reach + a.cols - reach ≡ a.cols = omega arith in
    c.set_ends-2.auto.row ∙ (c.set_ends.auto.row ∙ (length-put reach (reach + a.cols - reach) a.row.now c.put_values.new.part (omega (arith, room)) (ap length c.put_values.ensures.same ∙ c.requires.cells ∙ sym size) ∙ whole))
