use Rattle.std.proofs.Common.{◌≡◌, ◌∙◌, ◌*◌, ◌+◌, ap, refl, length, arith}
use Rattle.std.proofs.lemmas.Nat.{mul-le}
use Rattle.stencil_def.specs.Step.{new_cell}
use Rattle.cell_lanes.specs.Padding.{with_ends}
use Rattle.cell_lanes.proofs.PaddedFacts.{rows-next, start-is, start-room, next-row-is, window-is, all-put}
use Rattle.cell_lanes.proofs.RowFacts.{part-length}
use Rattle.cell_lanes.proofs.PlaceFacts.{cut-limits}
use Rattle.cell_lanes.proofs.padded.put_next_row.Goals as goal

pub returns-clause-rows : goal.returns-clause-rows
returns-clause-rows c g e f padded done =
    let rule = c.args.rule.now in
    let row = c.args.row in
    let r = c.reach-reach.ensures.value in
    let start = start-is rule row c.reach-reach.result c.args.cols c.args.cols c.start_of-start.result c.start_of-start.ensures r refl in
    let long : length c.args.next.now ≡ with_ends rule c.args.rows * with_ends rule c.args.cols = c.requires.same_length ∙ c.requires.length in
    rows-next (new_cell g rule) rule c.args.cols row c.start_of-start.result c.args.next.now c.next_row.new.row _ done start
    (start-room rule c.args.rows c.args.cols row c.start_of-start.result (length c.args.next.now) start c.requires.row long)
    c.next_row.ensures.length
    (λ x h. next-row-is g rule c.args.rows c.args.cols row x 0 c.args.values.now _ c.next_row.new.row e f c.requires.cols.0 padded c.requires.length c.requires.row
    (window-is rule row c.reach-reach.result c.args.cols c.start_of-above.result c.start_of.result _ c.args.values.now r c.start_of-above.ensures c.start_of.ensures refl)
    (c.next_row.ensures.cells x h))

pub returns-clause-values : goal.returns-clause-values
returns-clause-values c = all-put _ _ c.args.next.now c.next_row.new.row c.requires.next_values c.next_row.ensures.values

-- the window's rows are among those that stand there
pub slice_bounds-window-end : goal.slice_bounds-window-end
slice_bounds-window-end c =
    let rule = c.args.rule.now in
    let r = c.reach-reach.ensures.value in
    let above : c.start_of-above.result ≡ c.args.row * with_ends rule c.args.cols =
    c.start_of-above.ensures ∙ ap (λ k. c.args.row * (c.args.cols + 2 * k)) r in
    let count : c.start_of.result ≡ (2 * rule.weights.reach + 1) * with_ends rule c.args.cols =
    c.start_of.ensures ∙ ap (λ k. (2 * k + 1) * (c.args.cols + 2 * k)) r in
    let few = c.requires.row in
    let m = mul-le (c.args.row + (2 * rule.weights.reach + 1)) (with_ends rule c.args.cols) (with_ends rule c.args.rows) (with_ends rule c.args.cols) (omega (arith, few)) (omega arith) in
    let long = c.requires.length in
    omega (arith, m, above, count, long)

-- the row has its place among the rows
pub slice_bounds-place-end : goal.slice_bounds-place-end
slice_bounds-place-end c =
    let rule = c.args.rule.now in
    let r = c.reach-reach.ensures.value in
    let start = start-is rule c.args.row c.reach-reach.result c.args.cols c.args.cols c.start_of-start.result c.start_of-start.ensures r refl in
    let few = c.requires.row in
    let m = mul-le (rule.weights.reach + c.args.row + 1) (with_ends rule c.args.cols) (with_ends rule c.args.rows) (with_ends rule c.args.cols) (omega (arith, few)) (omega arith) in
    let long = c.requires.same_length ∙ c.requires.length in
    omega (arith, m, start, long, r)

pub next_row-requires-clause-window : goal.next_row-requires-clause-window
next_row-requires-clause-window c =
    let rule = c.args.rule.now in
    let r = c.reach-reach.ensures.value in
    let above : c.start_of-above.result ≡ c.args.row * with_ends rule c.args.cols =
    c.start_of-above.ensures ∙ ap (λ k. c.args.row * (c.args.cols + 2 * k)) r in
    let count : c.start_of.result ≡ (2 * rule.weights.reach + 1) * with_ends rule c.args.cols =
    c.start_of.ensures ∙ ap (λ k. (2 * k + 1) * (c.args.cols + 2 * k)) r in
    let few = c.requires.row in
    let m = mul-le (c.args.row + (2 * rule.weights.reach + 1)) (with_ends rule c.args.cols) (with_ends rule c.args.rows) (with_ends rule c.args.cols) (omega (arith, few)) (omega arith) in
    let long = c.requires.length in
    part-length c.args.values.now c.start_of-above.result c.start_of.result (omega (arith, m, above, count, long)) ∙ count

pub next_row-requires-clause-values : goal.next_row-requires-clause-values
next_row-requires-clause-values c = cut-limits c.args.values.now c.args.values.now _ _ refl c.requires.values

pub next_row-requires-clause-row : goal.next_row-requires-clause-row
next_row-requires-clause-row c =
    let rule = c.args.rule.now in
    let r = c.reach-reach.ensures.value in
    let start = start-is rule c.args.row c.reach-reach.result c.args.cols c.args.cols c.start_of-start.result c.start_of-start.ensures r refl in
    let few = c.requires.row in
    let m = mul-le (rule.weights.reach + c.args.row + 1) (with_ends rule c.args.cols) (with_ends rule c.args.rows) (with_ends rule c.args.cols) (omega (arith, few)) (omega arith) in
    let long = c.requires.same_length ∙ c.requires.length in
    part-length c.args.next.now c.start_of-start.result (c.args.cols + 2 * c.reach-reach.result) (omega (arith, m, start, long, r)) ∙ ap (λ k. c.args.cols + 2 * k) r

pub next_row-requires-clause-old : goal.next_row-requires-clause-old
next_row-requires-clause-old c = cut-limits c.args.next.now c.args.next.now _ _ refl c.requires.next_values
