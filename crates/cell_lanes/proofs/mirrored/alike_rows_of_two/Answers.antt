use Rattle.std.proofs.Common.{◌≡◌, ◌∙◌, ℕ, ◌+◌, ◌*◌, ◌≤◌, ◌+ℤ◌, ◌*ℤ◌, pos, unsigned_abs, sym, ap, subst, arith}
use Rattle.stencil_def.specs.Limits.{IsWeight}
use Rattle.stencil_def.specs.Square.{weight}
use Rattle.stencil_def.proofs.SumFacts.{sum-none, sum-more, sum-small}
use Rattle.cell_lanes.specs.Mirror.{alike, alike_row_sum}
use Rattle.cell_lanes.specs.Parts.{IsPart, IsAlike, IsAlikeSum}
use Rattle.cell_lanes.proofs.SplitFacts.{product-alike}
use Rattle.cell_lanes.proofs.TwoFacts.{two-same, two-all, two-back, each-bits, long-bits, multiplied, added, first-of}
use Rattle.cell_lanes.proofs.MirrorFacts.{alike_at, alike_below, alike-size}
use Rattle.cell_lanes.proofs.mirrored.alike_rows_of_two.Goals as goal

pub loop-b-init : goal.loop-b-init
loop-b-init c = record {
  sums = two-same (λ i. pos 0) (λ i. alike_below c.args.weights.now c.args.window.now c.args.width (c.args.x + i) c.args.a 0) (λ i. sym (sum-none _));
  limits = λ i. rw (sum-none _) (omega arith);
}

pub times-requires-clause-lanes : goal.times-requires-clause-lanes
times-requires-clause-lanes c = (
  long-bits c.at.result (λ i. weight c.args.weights.now c.args.a c.loop-b.b) c.at.ensures.value,
  long-bits c.alike_values-values.result (λ i. alike c.args.window.now c.args.width c.args.reach (c.args.x + i) c.args.a c.loop-b.b) c.alike_values-values.ensures,
)

pub times-requires-clause-values : goal.times-requires-clause-values
times-requires-clause-values c =
    let v : ℕ → _ = λ i. alike c.args.window.now c.args.width c.args.reach (c.args.x + i) c.args.a c.loop-b.b in
    let value : (i : ℕ) → IsAlike (v i) = λ i. alike-size c.args.window.now c.args.width c.args.reach (c.args.x + i) c.args.a c.loop-b.b c.requires.values in
    each-bits IsAlike c.alike_values-values.result v c.alike_values-values.ensures value (λ i. let q = value i in omega arith)

pub plus-sums-requires-clause-left : goal.plus-sums-requires-clause-left
plus-sums-requires-clause-left c =
    rw c.loop-b.invariant.sums (two-all IsPart (λ i. alike_below c.args.weights.now c.args.window.now c.args.width (c.args.x + i) c.args.a c.loop-b.b)
    (λ i. let s = c.loop-b.invariant.limits i in let few = c.loop-b-test.true in let near = c.requires.near in omega arith))

pub plus-sums-requires-clause-right : goal.plus-sums-requires-clause-right
plus-sums-requires-clause-right c =
    let t = weight c.args.weights.now c.args.a c.loop-b.b in
    let bound = first-of IsWeight c.at.result (λ i. t) c.at.ensures.value c.at.ensures.limits in
    let v : ℕ → _ = λ i. alike c.args.window.now c.args.width c.args.reach (c.args.x + i) c.args.a c.loop-b.b in
    let value : (i : ℕ) → IsAlike (v i) = λ i. alike-size c.args.window.now c.args.width c.args.reach (c.args.x + i) c.args.a c.loop-b.b c.requires.values in
    let size : (i : ℕ) → unsigned_abs (t *ℤ v i) ≤ 4000000000000000 = λ i. product-alike t (v i) bound (value i) in
    let products = multiplied c.at.result c.alike_values-values.result c.times.result (λ i. t) v c.at.ensures.value c.alike_values-values.ensures
    (λ i. omega arith) (λ i. let q = value i in omega arith) c.times.ensures in
    each-bits IsPart c.times.result (λ i. t *ℤ v i) products (λ i. let s = size i in omega arith) (λ i. let s = size i in omega arith)

pub loop-b-preserved : goal.loop-b-preserved
loop-b-preserved c =
    let t = weight c.args.weights.now c.args.a c.loop-b.b in
    let bound = first-of IsWeight c.at.result (λ i. t) c.at.ensures.value c.at.ensures.limits in
    let v : ℕ → _ = λ i. alike c.args.window.now c.args.width c.args.reach (c.args.x + i) c.args.a c.loop-b.b in
    let value : (i : ℕ) → IsAlike (v i) = λ i. alike-size c.args.window.now c.args.width c.args.reach (c.args.x + i) c.args.a c.loop-b.b c.requires.values in
    let size : (i : ℕ) → unsigned_abs (t *ℤ v i) ≤ 4000000000000000 = λ i. product-alike t (v i) bound (value i) in
    let products = multiplied c.at.result c.alike_values-values.result c.times.result (λ i. t) v c.at.ensures.value c.alike_values-values.ensures
    (λ i. omega arith) (λ i. let q = value i in omega arith) c.times.ensures in
    let here : ℕ → _ = λ i. alike_at c.args.weights.now c.args.window.now c.args.width (c.args.x + i) c.args.a c.loop-b.b in
    let same : (i : ℕ) → t *ℤ v i ≡ here i = λ i. ap (λ r. t *ℤ alike c.args.window.now c.args.width r (c.args.x + i) c.args.a c.loop-b.b) c.requires.reach in
    let below : ℕ → ℕ → _ = λ i n. alike_below c.args.weights.now c.args.window.now c.args.width (c.args.x + i) c.args.a n in
    let more : (i : ℕ) → below i (c.loop-b.b + 1) ≡ below i c.loop-b.b +ℤ here i =
    λ i. sum-more c.loop-b.b (λ b. alike_at c.args.weights.now c.args.window.now c.args.width (c.args.x + i) c.args.a b) in
    let limits : (i : ℕ) → unsigned_abs (below i (c.loop-b.b + 1)) ≤ (c.loop-b.b + 1) * 4000000000000000 =
    λ i. rw (more i, sym (same i)) (sum-small (below i c.loop-b.b) (t *ℤ v i) c.loop-b.b 4000000000000000 (c.loop-b.invariant.limits i) (size i)) in
    record {
      sums = added _ _ c.plus-sums.result (λ i. below i c.loop-b.b) (λ i. t *ℤ v i) (λ i. below i (c.loop-b.b + 1)) c.loop-b.invariant.sums
          (two-back c.times.result (λ i. t *ℤ v i) products (λ i. let s = size i in omega arith))
          (λ i. ap (λ z. below i c.loop-b.b +ℤ z) (same i) ∙ sym (more i)) (λ i. let s = limits i in let few = c.loop-b-test.true in let near = c.requires.near in omega arith) c.plus-sums.ensures;
      limits = limits;
    }

pub returns-clause-sums : goal.returns-clause-sums
returns-clause-sums c =
    let end : c.loop-b.b ≡ c.args.weights.now.reach + 1 = omega arith in
    c.loop-b.invariant.sums
    ∙ two-same (λ i. alike_below c.args.weights.now c.args.window.now c.args.width (c.args.x + i) c.args.a c.loop-b.b)
    (λ i. alike_row_sum c.args.weights.now c.args.window.now c.args.width (c.args.x + i) c.args.a)
    (λ i. ap (λ n. alike_below c.args.weights.now c.args.window.now c.args.width (c.args.x + i) c.args.a n) end)

pub returns-clause-limits : goal.returns-clause-limits
returns-clause-limits c i =
    let end : c.loop-b.b ≡ c.args.weights.now.reach + 1 = omega arith in
    let s = c.loop-b.invariant.limits i in
    let near = c.requires.near in
    let same = c.requires.reach in
    subst (λ n. IsAlikeSum (alike_below c.args.weights.now c.args.window.now c.args.width (c.args.x + i) c.args.a n)) end (omega arith)
