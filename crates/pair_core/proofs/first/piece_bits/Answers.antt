use Rattle.std.proofs.Common.{subst, arith}
use Rattle.part_geometry.specs.Shape.{IsShape}
use Rattle.part_geometry.proofs.PieceFacts.{need_count-le}
use Rattle.pair_core.proofs.first.piece_bits.Goals as goal

pub low_bits-requires : goal.low_bits-requires
low_bits-requires c =
    let v = subst IsShape c.geometry-geometry.ensures.value c.geometry-geometry.ensures.limits in
    let few = need_count-le c.args.tables.now v c.args.i c.requires in omega (arith, c.part_count.ensures)
