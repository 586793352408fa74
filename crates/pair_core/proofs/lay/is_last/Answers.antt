use Rattle.std.proofs.Common.{subst, arith, refl}
use Rattle.part_geometry.specs.Shape.{IsShape}
use Rattle.pair_core.proofs.StateLay.{none_left, one_left}
use Rattle.pair_core.proofs.lay.is_last.Goals as goal

pub loop-j-preserved : goal.loop-j-preserved
loop-j-preserved c = grind arith

pub returns-then-lacks : goal.returns-then-lacks
returns-then-lacks c =
    let v = subst IsShape c.geometry-geometry.ensures.value c.geometry-geometry.ensures.limits in
    let is = c.if-lacks.ensures.0 refl in
    one_left c.args.tables.now v c.args.i c.args.pending.now c.loop-j.j (omega (arith, c.pieces-j-end.ensures.value)) c.if-j-i.true is.0 is.1

pub returns : goal.returns
returns c =
    let v = subst IsShape c.geometry-geometry.ensures.value c.geometry-geometry.ensures.limits in
    none_left c.args.tables.now v c.args.i c.args.pending.now (λ j low other t. c.loop-j.invariant j (omega (arith, c.pieces-j-end.ensures.value)) other t)
