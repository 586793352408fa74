use Rattle.std.proofs.Common.{ap, arith}
use Rattle.stencil_def.specs.Plane.{plane_of}
use Rattle.stencil_def.proofs.StepFacts.{zero-limits}
use Rattle.stencil_def.proofs.grid.Grid.zeros.Goals as goal

pub overflow_mul-rows : goal.overflow_mul-rows
overflow_mul-rows c = let few = c.requires.cells in omega arith

pub returns-clause-zeros : goal.returns-clause-zeros
returns-clause-zeros c = ap (plane_of c.args.rows c.args.cols) (c.in_ok-values.ensures.items_if_clones_equal (λ y e. e))

pub returns-clause-limits : goal.returns-clause-limits
returns-clause-limits c =
    zero-limits c.args.rows c.args.cols c.in_ok-values.values.items c.requires.rows c.requires.cols c.requires.cells
    (c.in_ok-values.ensures.items_if_clones_equal (λ y e. e))

pub invariant_of-result : goal.invariant_of-result
invariant_of-result c =
    zero-limits c.args.rows c.args.cols c.in_ok-values.values.items c.requires.rows c.requires.cols c.requires.cells
    (c.in_ok-values.ensures.items_if_clones_equal (λ y e. e))
