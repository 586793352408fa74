use Rattle.std.proofs.Common.{sym, to_z, w64, arith}
use Rattle.stencil_def.proofs.SumFacts.{sum-none, add-fits, add-value, add-small}
use Rattle.cell_lanes.proofs.sums.sum_of_one.Goals as goal

pub loop-a-init : goal.loop-a-init
loop-a-init c = record { value = sym (sum-none _); limits = omega arith }

pub overflow_add-sum : goal.overflow_add-sum
overflow_add-sum c =
    let few = c.loop-a-test.true in let near = c.requires.near in
    add-fits (to_z w64 c.loop-a.sum-bits) c.row_of_one-sum.result c.loop-a.a 5000000000000000 c.loop-a.invariant.limits c.row_of_one-sum.ensures.limits (omega arith) (omega arith)

pub loop-a-preserved : goal.loop-a-preserved
loop-a-preserved c =
    let few = c.loop-a-test.true in let near = c.requires.near in
    record {
      value = add-value (to_z w64 c.loop-a.sum-bits) c.row_of_one-sum.result _ c.loop-a.a 5000000000000000 c.loop-a.invariant.value c.row_of_one-sum.ensures.value c.loop-a.invariant.limits c.row_of_one-sum.ensures.limits (omega arith) (omega arith);
      limits = add-small (to_z w64 c.loop-a.sum-bits) c.row_of_one-sum.result c.loop-a.a 5000000000000000 c.loop-a.invariant.limits c.row_of_one-sum.ensures.limits (omega arith) (omega arith);
    }
