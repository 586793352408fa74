-- One more place of the row has what the grid's own rows give it, and those aren't the row that is set.
use Rattle.std.proofs.Common.{◌≡◌, ◌∙◌, ℕ, ◌+◌, ◌*◌, ◌<◌, ap, pos, get_or, arith}
use Rattle.std.proofs.lemmas.Nat.{mul-add-lt}
use Rattle.cell_lanes.specs.Padding.{with_ends, row_value}
use Rattle.cell_lanes.proofs.PaddedFacts.{row-set-next}
use Rattle.cell_lanes.proofs.RowFacts.{end-same}
use Rattle.cell_lanes.proofs.padded.set_end_row.Goals as goal

-- column x of own row i, behind the rows before it
own-place : (r w x i own width : ℕ) → own ≡ r * w → width ≡ w → own + x + i * width ≡ (r + i) * w + x
own-place r w x i own width e f =
    ap (λ k. k + x + i * width) e ∙ (ap (λ k. r * w + x + i * k) f ∙ omega arith)

pub end_value-requires-clause-own : goal.end_value-requires-clause-own
end_value-requires-clause-own c i h =
    let rule = c.args.rule.now in
    let reach = c.reach-reach.ensures.value in
    let wide : c.args.cols + 2 * c.reach-reach.result ≡ with_ends rule c.args.cols = ap (λ r. c.args.cols + 2 * r) reach in
    let own : c.start_of-own.result ≡ rule.weights.reach * with_ends rule c.args.cols =
    c.start_of-own.ensures ∙ ap (λ r. r * (c.args.cols + 2 * r)) reach in
    let place = own-place rule.weights.reach (with_ends rule c.args.cols) c.loop-x.x i c.start_of-own.result (c.args.cols + 2 * c.reach-reach.result) own wide in
    let less : c.loop-x.x < with_ends rule c.args.cols = let l = c.loop-x-test.true in omega (arith, l, reach) in
    let m = mul-add-lt (rule.weights.reach + i) (with_ends rule c.args.cols) c.loop-x.x (with_ends rule c.args.rows) (omega arith) less in
    let long = c.loop-x.auto.values in
    let whole = c.requires.length in
    omega (arith, m, place, long, whole)

pub bounds-values-start : goal.bounds-values-start
bounds-values-start c =
    let start : c.start_of-start.result ≡ c.args.y * with_ends c.args.rule.now c.args.cols =
    c.start_of-start.ensures ∙ ap (λ r. c.args.y * (c.args.cols + 2 * r)) c.reach-reach.ensures.value in
    let less : c.loop-x.x < with_ends c.args.rule.now c.args.cols = let l = c.loop-x-test.true in let reach = c.reach-reach.ensures.value in omega (arith, l, reach) in
    let m = mul-add-lt c.args.y (with_ends c.args.rule.now c.args.cols) c.loop-x.x (with_ends c.args.rule.now c.args.rows) c.requires.row less in
    let long = c.loop-x.auto.values in
    let whole = c.requires.length in
    omega (arith, m, start, long, whole)

pub loop-x-preserved : goal.loop-x-preserved
loop-x-preserved c =
    let rule = c.args.rule.now in
    let values = c.loop-x.values in
    let less = c.loop-x-test.true in
    let reach = c.reach-reach.ensures.value in
    let wide : c.args.cols + 2 * c.reach-reach.result ≡ with_ends rule c.args.cols = ap (λ r. c.args.cols + 2 * r) reach in
    let start : c.start_of-start.result ≡ c.args.y * with_ends rule c.args.cols =
    c.start_of-start.ensures ∙ ap (λ r. c.args.y * (c.args.cols + 2 * r)) reach in
    let own : c.start_of-own.result ≡ rule.weights.reach * with_ends rule c.args.cols =
    c.start_of-own.ensures ∙ ap (λ r. r * (c.args.cols + 2 * r)) reach in
    let value = c.end_value.ensures.value
    ∙ end-same rule c.args.rows c.args.y (λ i. get_or values (c.start_of-own.result + c.loop-x.x + i * (c.args.cols + 2 * c.reach-reach.result)) (pos 0))
    (λ i. row_value rule c.args.cols values i c.loop-x.x) c.requires.rows.0
    (λ i h. ap (λ k. get_or values k (pos 0)) (own-place rule.weights.reach (with_ends rule c.args.cols) c.loop-x.x i c.start_of-own.result _ own wide)) in
    row-set-next rule c.args.rows c.args.cols c.args.y c.loop-x.x c.args.values.now values c.end_value.result _ c.loop-x.invariant
    (omega (arith, less, reach)) c.requires.length c.loop-x.auto.values c.requires.rows.0 c.requires.row c.requires.outside (ap (λ n. n + c.loop-x.x) start) value c.end_value.ensures.limits
