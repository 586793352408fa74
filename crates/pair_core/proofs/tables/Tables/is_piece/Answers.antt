use Rattle.std.proofs.Common.{◌≡◌, ◌*◌, subst, refl, arith}
use Rattle.part_geometry.specs.Shape.{IsShape}
use Rattle.part_geometry.specs.Pieces.{pieces}
use Rattle.pair_core.proofs.Cut.{some_pieces}
use Rattle.pair_core.proofs.StateNumbers.{piece_there}
use Rattle.pair_core.proofs.tables.Tables.is_piece.Goals as goal

pub returns-clause-some : goal.returns-clause-some
returns-clause-some c =
    let g = c.args.self.now in
    let v = subst IsShape c.geometry-geometry.ensures.value c.geometry-geometry.ensures.limits in
    let count : c.depth.result * c.pieces.result ≡ g.depth * pieces g = rw (c.depth.ensures.value, c.pieces.ensures.value, c.geometry-geometry.ensures.value) refl in
    λ _. piece_there g c.args.word c.first_piece_word-first.result (some_pieces g v) c.first_piece_word-first.ensures.value c.if-word-first.false (omega arith)
