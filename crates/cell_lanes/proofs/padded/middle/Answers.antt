use Rattle.std.proofs.Common.{◌≡◌, ◌∙◌, ◌+◌, ◌-◌, ◌*◌, refl, sym, ap, pos, get_or, take, drop, length, arith}
use Rattle.std.proofs.lemmas.Nat.{mul-le}
use Rattle.cell_lanes.specs.Padding.{with_ends}
use Rattle.cell_lanes.proofs.PaddedFacts.{taken-next, start-is, plane-same}
use Rattle.cell_lanes.proofs.RowFacts.{part-length}
use Rattle.cell_lanes.proofs.PlaceFacts.{cut-limits}
use Rattle.stencil_def.specs.Plane.{Plane}
use Rattle.cell_lanes.proofs.padded.middle.Goals as goal

pub loop-row-preserved : goal.loop-row-preserved
loop-row-preserved c =
    let rule = c.args.rule.now in
    let few = c.loop-row-test.true in
    let r = c.reach-reach.ensures.value in
    let part : c.start_of.result + c.reach-reach.result + c.args.cols - (c.start_of.result + c.reach-reach.result) ≡ c.args.cols = omega arith in
    record {
      rows = c.set_row.ensures.rows ∙ c.loop-row.invariant.rows;
      cols = c.set_row.ensures.cols ∙ c.loop-row.invariant.cols;
      plane = c.set_row.ensures.limits;
      taken = λ g e padded.
          taken-next g rule c.args.rows c.args.cols c.loop-row.row (c.start_of.result + c.reach-reach.result) c.args.values.now c.loop-row.grid c.set_row.new.grid e c.loop-row.invariant.cols
          padded few
          (ap (λ n. n + c.reach-reach.result) (start-is rule c.loop-row.row c.reach-reach.result c.args.cols c.args.cols c.start_of.result c.start_of.ensures r refl)
          ∙ ap (λ n. (rule.weights.reach + c.loop-row.row) * with_ends rule c.args.cols + n) r)
          (c.loop-row.invariant.taken g e padded)
          (λ col h. c.set_row.ensures.row col h ∙ ap (λ n. get_or (take n (drop (c.start_of.result + c.reach-reach.result) c.args.values.now)) col (pos 0)) part)
          c.set_row.ensures.below;
    }

pub returns-clause-cells : goal.returns-clause-cells
returns-clause-cells c g e f size padded =
    let end = c.loop-row-test.false in
    let long : length c.loop-row.grid.values ≡ c.args.rows * c.args.cols =
    c.loop-row.invariant.plane.length ∙ (ap (λ n. n * c.loop-row.grid.cols) c.loop-row.invariant.rows ∙ ap (λ n. c.args.rows * n) c.loop-row.invariant.cols) in
    let last : c.loop-row.row ≡ c.args.rows = omega arith in
    let all : c.args.rows * c.args.cols ≡ c.loop-row.row * g.cols = ap (λ n. n * c.args.cols) (sym last) ∙ ap (λ n. c.loop-row.row * n) (sym f) in
    plane-same g c.loop-row.grid (c.loop-row.invariant.rows ∙ sym e) (c.loop-row.invariant.cols ∙ sym f) (long ∙ sym size)
    (λ k h. c.loop-row.invariant.taken g f padded k (omega (arith, h, long, all)))

-- the row's own cells are among the places
pub slice_bounds-set_row-end : goal.slice_bounds-set_row-end
slice_bounds-set_row-end c =
    let rule = c.args.rule.now in
    let r = c.reach-reach.ensures.value in
    let start = start-is rule c.loop-row.row c.reach-reach.result c.args.cols c.args.cols c.start_of.result c.start_of.ensures r refl in
    let few = c.loop-row-test.true in
    let m = mul-le (rule.weights.reach + c.loop-row.row + 1) (with_ends rule c.args.cols) (with_ends rule c.args.rows) (with_ends rule c.args.cols) (omega (arith, few)) (omega arith) in
    let long = c.requires.length in
    omega (arith, m, start, long, r)

pub loop-row-init : goal.loop-row-init
loop-row-init c = record {
  rows = ap (λ (w : Plane). w.rows) c.in_ok-grid.ensures.zeros;
  cols = ap (λ (w : Plane). w.cols) c.in_ok-grid.ensures.zeros;
  plane = c.in_ok-grid.ensures.limits;
  taken = λ g e padded k h. absurd (omega (arith, h));
}

pub set_row-requires-clause-row : goal.set_row-requires-clause-row
set_row-requires-clause-row c = omega (arith, c.loop-row.invariant.rows, c.loop-row-test.true)

pub set_row-requires-clause-length : goal.set_row-requires-clause-length
set_row-requires-clause-length c =
    let rule = c.args.rule.now in
    let r = c.reach-reach.ensures.value in
    let start = start-is rule c.loop-row.row c.reach-reach.result c.args.cols c.args.cols c.start_of.result c.start_of.ensures r refl in
    let few = c.loop-row-test.true in
    let m = mul-le (rule.weights.reach + c.loop-row.row + 1) (with_ends rule c.args.cols) (with_ends rule c.args.rows) (with_ends rule c.args.cols) (omega (arith, few)) (omega arith) in
    let long = c.requires.length in
    part-length c.args.values.now (c.start_of.result + c.reach-reach.result) c.args.cols (omega (arith, m, start, long, r)) ∙ sym c.loop-row.invariant.cols

pub set_row-requires-clause-values : goal.set_row-requires-clause-values
set_row-requires-clause-values c = cut-limits c.args.values.now c.args.values.now _ _ refl c.requires.values
