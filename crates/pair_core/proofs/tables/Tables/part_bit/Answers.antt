use Rattle.std.proofs.Common.{subst, arith}
use Rattle.part_geometry.specs.Shape.{IsShape}
use Rattle.pair_core.proofs.Cut.{touch_range}
use Rattle.pair_core.proofs.tables.Tables.part_bit.Goals as goal

pub overflow_sub-result : goal.overflow_sub-result
overflow_sub-result c =
    let v = subst IsShape c.geometry-geometry.ensures.value c.geometry-geometry.ensures.limits in
    let low = (touch_range c.args.self.now v c.args.i c.args.p c.requires.piece c.requires.touches).low in omega (arith, c.first_part.ensures)

pub returns-clause-limits : goal.returns-clause-limits
returns-clause-limits c =
    let v = subst IsShape c.geometry-geometry.ensures.value c.geometry-geometry.ensures.limits in
    let r = touch_range c.args.self.now v c.args.i c.args.p c.requires.piece c.requires.touches in
    let low = r.low in let high = r.high in let few = r.few in omega (arith, c.first_part.ensures)
