use Rattle.std.proofs.Common.{subst, arith, ◌-◌}
use Rattle.std.proofs.lemmas.Bool.{leb-true, ltb-true, lt-ltb}
use Rattle.part_geometry.specs.Shape.{IsShape}
use Rattle.pair_core.proofs.Cut.{touch_range, range_touch}
use Rattle.pair_core.proofs.tables.Tables.touches.Goals as goal

pub returns-then-p-first : goal.returns-then-p-first
returns-then-p-first c =
    let v = subst IsShape c.geometry-geometry.ensures.value c.geometry-geometry.ensures.limits in
    let first = c.first_part-first.result in let count = c.part_count.result in let p = c.args.p in (
      λ yes. let high = ltb-true (p - first) count yes in
          range_touch c.args.self.now v c.args.i p c.requires (omega (arith, c.first_part-first.ensures, c.if-p-first.true)) (omega (arith, c.first_part-first.ensures, c.part_count.ensures, c.if-p-first.true)),
      λ t. let high = (touch_range c.args.self.now v c.args.i p c.requires t).high in
          lt-ltb (p - first) count (omega (arith, c.first_part-first.ensures, c.part_count.ensures, c.if-p-first.true)),
    )

pub returns-else-p-first : goal.returns-else-p-first
returns-else-p-first c =
    let v = subst IsShape c.geometry-geometry.ensures.value c.geometry-geometry.ensures.limits in
    let first = c.first_part-first.result in let p = c.args.p in (
      λ yes. let low = leb-true first p yes in absurd (omega (arith, c.if-p-first.false)),
      λ t. let low = (touch_range c.args.self.now v c.args.i p c.requires t).low in absurd (omega (arith, c.first_part-first.ensures, c.if-p-first.false)),
    )
