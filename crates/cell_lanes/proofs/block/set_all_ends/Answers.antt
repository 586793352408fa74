use Rattle.std.proofs.Common.{◌≡◌, ◌∙◌, refl, sym, ap, ◌+◌, ◌-◌, ◌*◌, ◌≤◌, length, arith}
use Rattle.std.proofs.lemmas.Nat.{mul-le}
use Rattle.cell_lanes.specs.Padding.{with_ends}
use Rattle.cell_lanes.proofs.RowFacts.{part-length}
use Rattle.cell_lanes.proofs.BlockFacts.{ends-next}
use Rattle.cell_lanes.proofs.PlaceFacts.{cut-limits, row-fits}
use Rattle.cell_lanes.proofs.block.set_all_ends.Goals as goal

pub loop-y-preserved : goal.loop-y-preserved
loop-y-preserved c =
    let rule = c.args.rule.now in
    let w = c.args.cols + 2 * c.reach.result in
    let start = c.loop-y.y * w in
    let wide : w ≡ with_ends rule c.args.cols = ap (λ r. c.args.cols + 2 * r) c.reach.ensures.value in
    let place : start ≡ c.loop-y.y * with_ends rule c.args.cols = ap (λ n. c.loop-y.y * n) wide in
    let size : start + w - start ≡ w = omega arith in
    let s = c.loop-y.invariant.limits in
    let long = s.length in
    let less = c.loop-y-test.true in
    let end = c.requires.end in
    let m = mul-le (c.loop-y.y + 1) (with_ends rule c.args.cols) (with_ends rule c.args.rows) (with_ends rule c.args.cols) (omega arith) (omega arith) in
    let room : start + w ≤ length c.loop-y.values = omega arith in
    let new : length c.set_row_ends.new.row ≡ w = c.set_row_ends.auto.row ∙ part-length c.loop-y.values start w room in
    ends-next rule c.args.rows c.args.cols c.args.from c.loop-y.y start (start + w - start) c.args.values.now c.loop-y.values c.set_row_ends.new.row c.loop-y.invariant (omega arith) place
    (size ∙ wide) (omega arith) (new ∙ sym size) c.set_row_ends.ensures.limits c.set_row_ends.ensures.cells

pub loop-y-init : goal.loop-y-init
loop-y-init c = record {
  ends = λ g top y e low high. absurd (omega (arith, low, high));
  rest = λ y away x less. refl;
  limits = c.requires.part;
}

-- the row is among those of the part
pub slice_bounds-set_row_ends-end : goal.slice_bounds-set_row_ends-end
slice_bounds-set_row_ends-end c =
    let rule = c.args.rule.now in
    let wide : c.args.cols + 2 * c.reach.result ≡ with_ends rule c.args.cols = ap (λ r. c.args.cols + 2 * r) c.reach.ensures.value in
    let s = c.loop-y.invariant.limits in
    let long = s.length in
    let room = row-fits (with_ends rule c.args.rows) (with_ends rule c.args.cols) (c.args.cols + 2 * c.reach.result) c.loop-y.y c.args.to _ c.loop-y-test.true c.requires.end wide long in
    omega (arith, room)

pub set_row_ends-requires-clause-row : goal.set_row_ends-requires-clause-row
set_row_ends-requires-clause-row c =
    let rule = c.args.rule.now in
    let w = c.args.cols + 2 * c.reach.result in
    let wide : w ≡ with_ends rule c.args.cols = ap (λ r. c.args.cols + 2 * r) c.reach.ensures.value in
    let s = c.loop-y.invariant.limits in
    part-length c.loop-y.values (c.loop-y.y * w) w (row-fits (with_ends rule c.args.rows) (with_ends rule c.args.cols) w c.loop-y.y c.args.to _ c.loop-y-test.true c.requires.end wide s.length) ∙ wide

pub set_row_ends-requires-clause-values : goal.set_row_ends-requires-clause-values
set_row_ends-requires-clause-values c =
    let s = c.loop-y.invariant.limits in cut-limits c.loop-y.values c.loop-y.values _ _ refl s.values
