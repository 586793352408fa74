use Rattle.std.proofs.Common.{◌≡◌, ℕ, ◌∙◌, ◌+◌, ◌-◌, ap, arith}
use Rattle.part_geometry.specs.Pieces.{piece_of}
use Rattle.part_geometry.specs.declared.walk.Cell.{Cell}
use Rattle.part_recv.specs.Seeing.{first_piece, after_piece}
use Rattle.part_recv.proofs.Pieces.{some_pieces}
use Rattle.part_recv.proofs.looking.pieces_over.Goals as goal

pub returns-clause-inside : goal.returns-clause-inside
returns-clause-inside c =
    let g = c.args.tables.now in let q = c.args.q in
    let both = some_pieces g c.geometry-geometry.ensures.limits q c.requires in
    let low : c.cell.result.piece ≡ first_piece g q = ap (λ (z : Cell). z.piece) c.cell.ensures ∙ ap (λ (z : ℕ × ℕ). piece_of g z.0) c.received-first.ensures.value in
    let high : c.cell-2.result.piece + 1 ≡ after_piece g q = ap (λ (z : Cell). z.piece + 1) c.cell-2.ensures ∙ ap (λ (z : ℕ × ℕ). piece_of g (z.1 - 1) + 1) c.received-first.ensures.value in
    let a = both.0 in let b = both.1 in (omega arith, omega arith)

pub overflow_add-result : goal.overflow_add-result
overflow_add-result c =
    let g = c.args.tables.now in let q = c.args.q in
    let both = some_pieces g c.geometry-geometry.ensures.limits q c.requires in
    let high : c.cell-2.result.piece + 1 ≡ after_piece g q = ap (λ (z : Cell). z.piece + 1) c.cell-2.ensures ∙ ap (λ (z : ℕ × ℕ). piece_of g (z.1 - 1) + 1) c.received-first.ensures.value in
    let b = both.1 in let few = c.pieces-few.ensures.limits.1 in let count = c.pieces-few.ensures.value in omega arith
