use Rattle.std.proofs.Common.{◌≡◌, ◌∙◌, ℕ, ◌+◌, ◌*◌, ◌≤◌, ◌+ℤ◌, pos, unsigned_abs, sym, ap, subst, arith}
use Rattle.stencil_def.specs.Limits.{IsWithin}
use Rattle.stencil_def.proofs.SumFacts.{sum-none, sum-more, sum-small}
use Rattle.cell_lanes.specs.Mirror.{alike_row_sum}
use Rattle.cell_lanes.specs.Parts.{IsPart}
use Rattle.cell_lanes.specs.Window.{sum_at}
use Rattle.cell_lanes.proofs.TwoFacts.{two-same, two-all, two-back, each-bits, added}
use Rattle.cell_lanes.proofs.MirrorFacts.{alike_rows_below, mirrored-sum, window-size}
use Rattle.cell_lanes.proofs.mirrored.mirrored_sums_of_two.Goals as goal

pub loop-a-init : goal.loop-a-init
loop-a-init c = record {
  sums = two-same (λ i. pos 0) (λ i. alike_rows_below c.args.weights.now c.args.window.now c.args.width (c.args.x + i) 0) (λ i. sym (sum-none _));
  limits = λ i. rw (sum-none _) (omega arith);
}

pub plus-sums-requires-clause-left : goal.plus-sums-requires-clause-left
plus-sums-requires-clause-left c =
    rw c.loop-a.invariant.sums (two-all IsPart (λ i. alike_rows_below c.args.weights.now c.args.window.now c.args.width (c.args.x + i) c.loop-a.a)
    (λ i. let s = c.loop-a.invariant.limits i in let few = c.loop-a-test.true in let near = c.requires.near.1 in omega arith))

pub plus-sums-requires-clause-right : goal.plus-sums-requires-clause-right
plus-sums-requires-clause-right c =
    each-bits IsPart c.alike_rows_of_two.result (λ i. alike_row_sum c.args.weights.now c.args.window.now c.args.width (c.args.x + i) c.loop-a.a) c.alike_rows_of_two.ensures.sums
    (λ i. let s = c.alike_rows_of_two.ensures.limits i in omega arith) (λ i. let s = c.alike_rows_of_two.ensures.limits i in omega arith)

pub loop-a-preserved : goal.loop-a-preserved
loop-a-preserved c =
    let row : ℕ → _ = λ i. alike_row_sum c.args.weights.now c.args.window.now c.args.width (c.args.x + i) c.loop-a.a in
    let below : ℕ → ℕ → _ = λ i n. alike_rows_below c.args.weights.now c.args.window.now c.args.width (c.args.x + i) n in
    let more : (i : ℕ) → below i (c.loop-a.a + 1) ≡ below i c.loop-a.a +ℤ row i =
    λ i. sum-more c.loop-a.a (λ a. alike_row_sum c.args.weights.now c.args.window.now c.args.width (c.args.x + i) a) in
    let limits : (i : ℕ) → unsigned_abs (below i (c.loop-a.a + 1)) ≤ (c.loop-a.a + 1) * 12000000000000000 =
    λ i. rw (more i) (sum-small (below i c.loop-a.a) (row i) c.loop-a.a 12000000000000000 (c.loop-a.invariant.limits i) (c.alike_rows_of_two.ensures.limits i)) in
    record {
      sums = added _ _ c.plus-sums.result (λ i. below i c.loop-a.a) row (λ i. below i (c.loop-a.a + 1)) c.loop-a.invariant.sums
          (two-back c.alike_rows_of_two.result row c.alike_rows_of_two.ensures.sums (λ i. let s = c.alike_rows_of_two.ensures.limits i in omega arith))
          (λ i. sym (more i)) (λ i. let s = limits i in let few = c.loop-a-test.true in let near = c.requires.near.1 in omega arith) c.plus-sums.ensures;
      limits = limits;
    }

pub returns-clause-sums : goal.returns-clause-sums
returns-clause-sums c =
    let end : c.loop-a.a ≡ c.args.weights.now.reach + 1 = omega arith in
    let near : IsWithin 1 2 c.args.weights.now.reach = subst (IsWithin 1 2) c.requires.reach c.requires.near in
    c.loop-a.invariant.sums
    ∙ two-same (λ i. alike_rows_below c.args.weights.now c.args.window.now c.args.width (c.args.x + i) c.loop-a.a)
    (λ i. sum_at c.args.weights.now c.args.window.now c.args.width (c.args.x + i))
    (λ i. ap (λ n. alike_rows_below c.args.weights.now c.args.window.now c.args.width (c.args.x + i) n) end
    ∙ mirrored-sum c.args.weights.now c.args.window.now c.args.width (c.args.x + i) near c.requires.mirrored)

pub returns-clause-limits : goal.returns-clause-limits
returns-clause-limits c i =
    let near : c.args.weights.now.reach ≤ 2 = subst (λ n. n ≤ 2) c.requires.reach c.requires.near.1 in
    window-size c.args.weights.now c.args.window.now c.args.width (c.args.x + i) near c.requires.weights c.requires.values
