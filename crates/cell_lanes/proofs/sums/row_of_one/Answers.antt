use Rattle.std.proofs.Common.{◌+◌, sym, to_z, w64, arith}
use Rattle.std.proofs.lemmas.Nat.{mul-add-lt}
use Rattle.stencil_def.specs.Square.{side}
use Rattle.stencil_def.proofs.SumFacts.{sum-none, add-fits, add-value, add-small}
use Rattle.cell_lanes.proofs.WindowFacts.{product-met}
use Rattle.cell_lanes.proofs.sums.row_of_one.Goals as goal

pub loop-b-init : goal.loop-b-init
loop-b-init c = record { value = sym (sum-none _); limits = omega arith }

pub overflow_add-sum : goal.overflow_add-sum
overflow_add-sum c =
    let few = c.loop-b-test.true in let near = c.requires.near in
    add-fits (to_z w64 c.loop-b.sum-bits) c.product-sum.result c.loop-b.b 1000000000000000 c.loop-b.invariant.limits c.product-sum.ensures.limits (omega arith) (omega arith)

pub loop-b-preserved : goal.loop-b-preserved
loop-b-preserved c =
    let few = c.loop-b-test.true in let near = c.requires.near in
    let met = product-met c.args.weights.now c.args.window.now c.args.width c.args.x c.args.a c.loop-b.b c.at.result c.product-sum.result c.at.ensures.value c.at.ensures.limits c.requires.values c.product-sum.ensures.value in
    record {
      value = add-value (to_z w64 c.loop-b.sum-bits) c.product-sum.result _ c.loop-b.b 1000000000000000 c.loop-b.invariant.value met c.loop-b.invariant.limits c.product-sum.ensures.limits (omega arith) (omega arith);
      limits = add-small (to_z w64 c.loop-b.sum-bits) c.product-sum.result c.loop-b.b 1000000000000000 c.loop-b.invariant.limits c.product-sum.ensures.limits (omega arith) (omega arith);
    }

pub bounds-window-start : goal.bounds-window-start
bounds-window-start c =
    let a = c.args in
    let few = c.loop-b-test.true in
    let m = mul-add-lt a.a a.width (a.x + c.loop-b.b) (side a.weights.now) c.requires.row (omega (arith, few, c.requires.column)) in
    omega (arith, m, c.requires.window)
