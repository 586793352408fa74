use Rattle.std.proofs.Common.{◌≡◌, ◌∙◌, ℕ, ◌+◌, ◌*◌, ◌≤◌, ◌*ℤ◌, pos, length, unsigned_abs, refl, sym, ap, subst, arith}
use Rattle.stencil_def.specs.Limits.{IsWeight, IsValue}
use Rattle.stencil_def.specs.Square.{weight}
use Rattle.stencil_def.proofs.SumFacts.{sum-none}
use Rattle.cell_lanes.specs.Window.{met, row_sum_at}
use Rattle.cell_lanes.specs.Parts.{IsPart, IsAlike, IsRowSum}
use Rattle.cell_lanes.proofs.LaneFacts.{product-size}
use Rattle.cell_lanes.proofs.TwoFacts.{two-same, two-all, two-back, each-bits, long-bits, multiplied, first-of}
use Rattle.cell_lanes.proofs.WindowFacts.{value-at, row-more, row-next, row_below, product_at, room}
use Rattle.cell_lanes.proofs.sums.row_of_two.Goals as goal

pub loop-b-init : goal.loop-b-init
loop-b-init c = record {
  sums = two-same (λ i. pos 0) (λ i. row_below c.args.weights.now c.args.window.now c.args.width (c.args.x + i) c.args.a 0) (λ i. sym (sum-none _));
  limits = λ i. rw (sum-none _) (omega arith);
}

pub values_met-values-requires-clause-place : goal.values_met-values-requires-clause-place
values_met-values-requires-clause-place c =
    room c.args.width c.args.a c.args.x c.loop-b.b c.args.reach c.args.weights.now.reach (length c.args.window.now) c.requires.window c.requires.reach c.requires.row c.requires.columns c.loop-b-test.true

pub times-requires-clause-lanes : goal.times-requires-clause-lanes
times-requires-clause-lanes c = (
  long-bits c.at.result (λ i. weight c.args.weights.now c.args.a c.loop-b.b) c.at.ensures.value,
  long-bits c.values_met-values.result (λ i. met c.args.window.now c.args.width (c.args.x + i) c.args.a c.loop-b.b) c.values_met-values.ensures,
)

pub times-requires-clause-values : goal.times-requires-clause-values
times-requires-clause-values c =
    let v : ℕ → _ = λ i. met c.args.window.now c.args.width (c.args.x + i) c.args.a c.loop-b.b in
    let value : (i : ℕ) → IsValue (v i) = λ i. value-at c.args.window.now (c.args.a * c.args.width + (c.args.x + i + c.loop-b.b)) c.requires.values in
    each-bits IsAlike c.values_met-values.result v c.values_met-values.ensures (λ i. let q = value i in omega arith) (λ i. let q = value i in omega arith)

pub plus-sums-requires-clause-left : goal.plus-sums-requires-clause-left
plus-sums-requires-clause-left c =
    rw c.loop-b.invariant.sums (two-all IsPart (λ i. row_below c.args.weights.now c.args.window.now c.args.width (c.args.x + i) c.args.a c.loop-b.b)
    (λ i. let s = c.loop-b.invariant.limits i in let few = c.loop-b-test.true in let near = c.requires.near in omega arith))

pub plus-sums-requires-clause-right : goal.plus-sums-requires-clause-right
plus-sums-requires-clause-right c =
    let limits = first-of IsWeight c.at.result (λ i. weight c.args.weights.now c.args.a c.loop-b.b) c.at.ensures.value c.at.ensures.limits in
    let v : ℕ → _ = λ i. met c.args.window.now c.args.width (c.args.x + i) c.args.a c.loop-b.b in
    let value : (i : ℕ) → IsValue (v i) = λ i. value-at c.args.window.now (c.args.a * c.args.width + (c.args.x + i + c.loop-b.b)) c.requires.values in
    let size : (i : ℕ) → unsigned_abs (weight c.args.weights.now c.args.a c.loop-b.b *ℤ v i) ≤ 1000000000000000 = λ i. product-size (weight c.args.weights.now c.args.a c.loop-b.b) (v i) limits (value i) in
    each-bits IsPart c.times.result (λ i. weight c.args.weights.now c.args.a c.loop-b.b *ℤ v i)
    (multiplied c.at.result c.values_met-values.result c.times.result (λ i. weight c.args.weights.now c.args.a c.loop-b.b) v c.at.ensures.value c.values_met-values.ensures
    (λ i. omega arith) (λ i. let q = value i in omega arith) c.times.ensures)
    (λ i. let s = size i in omega arith) (λ i. let s = size i in omega arith)

pub loop-b-preserved : goal.loop-b-preserved
loop-b-preserved c =
    let bound = first-of IsWeight c.at.result (λ i. weight c.args.weights.now c.args.a c.loop-b.b) c.at.ensures.value c.at.ensures.limits in
    let v : ℕ → _ = λ i. met c.args.window.now c.args.width (c.args.x + i) c.args.a c.loop-b.b in
    let value : (i : ℕ) → IsValue (v i) = λ i. value-at c.args.window.now (c.args.a * c.args.width + (c.args.x + i + c.loop-b.b)) c.requires.values in
    let size : (i : ℕ) → unsigned_abs (weight c.args.weights.now c.args.a c.loop-b.b *ℤ v i) ≤ 1000000000000000 = λ i. product-size (weight c.args.weights.now c.args.a c.loop-b.b) (v i) bound (value i) in
    let products = multiplied c.at.result c.values_met-values.result c.times.result (λ i. weight c.args.weights.now c.args.a c.loop-b.b) v c.at.ensures.value c.values_met-values.ensures
    (λ i. omega arith) (λ i. let q = value i in omega arith) c.times.ensures in
    let limits : (i : ℕ) → unsigned_abs (row_below c.args.weights.now c.args.window.now c.args.width (c.args.x + i) c.args.a (c.loop-b.b + 1)) ≤ (c.loop-b.b + 1) * 1000000000000000 =
    λ i. row-more c.args.weights.now c.args.window.now c.args.width (c.args.x + i) c.args.a c.loop-b.b (weight c.args.weights.now c.args.a c.loop-b.b) refl bound c.requires.values (c.loop-b.invariant.limits i) in
    record {
      sums = row-next c.args.weights.now c.args.window.now c.args.width c.args.x c.args.a c.loop-b.b _ _ c.plus-sums.result c.loop-b.invariant.sums limits (omega arith)
          (two-back c.times.result (λ i. product_at c.args.weights.now c.args.window.now c.args.width (c.args.x + i) c.args.a c.loop-b.b) products (λ i. let s = size i in omega arith)) c.plus-sums.ensures;
      limits = limits;
    }

pub returns-clause-sums : goal.returns-clause-sums
returns-clause-sums c =
    let end : c.loop-b.b ≡ 2 * c.args.weights.now.reach + 1 = omega arith in
    c.loop-b.invariant.sums
    ∙ two-same (λ i. row_below c.args.weights.now c.args.window.now c.args.width (c.args.x + i) c.args.a c.loop-b.b)
    (λ i. row_sum_at c.args.weights.now c.args.window.now c.args.width (c.args.x + i) c.args.a)
    (λ i. ap (λ n. row_below c.args.weights.now c.args.window.now c.args.width (c.args.x + i) c.args.a n) end)

pub returns-clause-limits : goal.returns-clause-limits
returns-clause-limits c i =
    let end : c.loop-b.b ≡ 2 * c.args.weights.now.reach + 1 = omega arith in
    let s = c.loop-b.invariant.limits i in
    let near = c.requires.near in
    let same = c.requires.reach in
    subst (λ n. IsRowSum (row_below c.args.weights.now c.args.window.now c.args.width (c.args.x + i) c.args.a n)) end (omega arith)
