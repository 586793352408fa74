use Rattle.std.proofs.Common.{◌≡◌, ◌∙◌, ℕ, ◌+◌, ◌*◌, ◌≤◌, pos, unsigned_abs, sym, ap, subst, arith}
use Rattle.stencil_def.proofs.SumFacts.{sum-none}
use Rattle.cell_lanes.specs.Window.{row_sum_at, sum_at}
use Rattle.cell_lanes.specs.Parts.{IsPart}
use Rattle.cell_lanes.specs.Sizes.{IsSum}
use Rattle.cell_lanes.proofs.TwoFacts.{two-same, two-all, two-back, each-bits}
use Rattle.cell_lanes.proofs.WindowFacts.{rows-more, rows-next, rows_below}
use Rattle.cell_lanes.proofs.sums.sums_of_two.Goals as goal

pub loop-a-init : goal.loop-a-init
loop-a-init c = record {
  sums = two-same (λ i. pos 0) (λ i. rows_below c.args.weights.now c.args.window.now c.args.width (c.args.x + i) 0) (λ i. sym (sum-none _));
  limits = λ i. rw (sum-none _) (omega arith);
}

pub plus-sums-requires-clause-left : goal.plus-sums-requires-clause-left
plus-sums-requires-clause-left c =
    rw c.loop-a.invariant.sums (two-all IsPart (λ i. rows_below c.args.weights.now c.args.window.now c.args.width (c.args.x + i) c.loop-a.a)
    (λ i. let s = c.loop-a.invariant.limits i in let few = c.loop-a-test.true in let near = c.requires.near in omega arith))

pub plus-sums-requires-clause-right : goal.plus-sums-requires-clause-right
plus-sums-requires-clause-right c =
    each-bits IsPart c.row_of_two.result (λ i. row_sum_at c.args.weights.now c.args.window.now c.args.width (c.args.x + i) c.loop-a.a) c.row_of_two.ensures.sums
    (λ i. let s = c.row_of_two.ensures.limits i in omega arith) (λ i. let s = c.row_of_two.ensures.limits i in omega arith)

pub loop-a-preserved : goal.loop-a-preserved
loop-a-preserved c =
    let limits : (i : ℕ) → unsigned_abs (rows_below c.args.weights.now c.args.window.now c.args.width (c.args.x + i) (c.loop-a.a + 1)) ≤ (c.loop-a.a + 1) * 5000000000000000 =
    λ i. rows-more c.args.weights.now c.args.window.now c.args.width (c.args.x + i) c.loop-a.a (c.row_of_two.ensures.limits i) (c.loop-a.invariant.limits i) in
    record {
      sums = rows-next c.args.weights.now c.args.window.now c.args.width c.args.x c.loop-a.a _ _ c.plus-sums.result c.loop-a.invariant.sums limits (omega arith)
          (two-back c.row_of_two.result (λ i. row_sum_at c.args.weights.now c.args.window.now c.args.width (c.args.x + i) c.loop-a.a) c.row_of_two.ensures.sums
          (λ i. let s = c.row_of_two.ensures.limits i in omega arith)) c.plus-sums.ensures;
      limits = limits;
    }

pub returns-clause-sums : goal.returns-clause-sums
returns-clause-sums c =
    let end : c.loop-a.a ≡ 2 * c.args.weights.now.reach + 1 = omega arith in
    c.loop-a.invariant.sums
    ∙ two-same (λ i. rows_below c.args.weights.now c.args.window.now c.args.width (c.args.x + i) c.loop-a.a)
    (λ i. sum_at c.args.weights.now c.args.window.now c.args.width (c.args.x + i))
    (λ i. ap (λ n. rows_below c.args.weights.now c.args.window.now c.args.width (c.args.x + i) n) end)

pub returns-clause-limits : goal.returns-clause-limits
returns-clause-limits c i =
    let end : c.loop-a.a ≡ 2 * c.args.weights.now.reach + 1 = omega arith in
    let s = c.loop-a.invariant.limits i in
    let near = c.requires.near in
    let same = c.requires.reach in
    subst (λ n. IsSum (rows_below c.args.weights.now c.args.window.now c.args.width (c.args.x + i) n)) end (omega arith)
