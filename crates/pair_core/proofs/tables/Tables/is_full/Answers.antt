use Rattle.std.proofs.Common.{arith, refl, sym, true≢false}
use Rattle.part_geometry.proofs.PieceFacts.{need_count-le}
use Rattle.part_geometry.specs.Shape.{IsShape}
use Rattle.std.proofs.Common.{subst}
use Rattle.pair_core.proofs.StateFull.{bits_full, full_bit}
use Rattle.pair_core.proofs.tables.Tables.is_full.Goals as goal

pub bit_of-requires : goal.bit_of-requires
bit_of-requires c =
    let v = subst IsShape c.geometry-geometry.ensures.value c.geometry-geometry.ensures.limits in
    let few = need_count-le c.args.self.now v c.args.i c.requires in omega (arith, c.part_count-count.ensures)

pub returns-then-bit_of-ne1 : goal.returns-then-bit_of-ne1
returns-then-bit_of-ne1 c =
    let v = subst IsShape c.geometry-geometry.ensures.value c.geometry-geometry.ensures.limits in (
      λ no. absurd (true≢false (sym no)),
      λ full.
          let one = full_bit c.args.self.now v c.args.word c.args.round c.args.i c.loop-b.b c.requires full (omega (arith, c.part_count-count.ensures)) in
          absurd (omega (arith, c.bit_of.ensures)),
    )

pub returns : goal.returns
returns c =
    let v = subst IsShape c.geometry-geometry.ensures.value c.geometry-geometry.ensures.limits in (
      λ _. bits_full c.args.self.now v c.args.word c.args.round c.args.i c.requires (omega (arith, c.round_of.ensures.value))
          (λ j low. c.loop-b.invariant j (omega (arith, c.part_count-count.ensures))),
      λ _. refl,
    )
