use Rattle.std.proofs.Common.{ap, subst}
use Rattle.part_geometry.specs.Shape.{IsShape}
use Rattle.plain_pair.proofs.Touching.{pieces_of_part}
use Rattle.plain_pair.proofs.tables.Tables.send_pieces.Goals as goal

pub returns : goal.returns
returns c =
    let v = subst IsShape c.geometry-geometry.ensures.value c.geometry-geometry.ensures.limits in
    let first = ap (λ x. x.piece) c.cell.ensures in
    let last = ap (λ x. x.piece) c.cell-last.ensures in
    rw (first, last) (pieces_of_part c.args.self.now v c.args.p _ _ c.send_cells-first.ensures)
