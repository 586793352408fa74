use Rattle.std.proofs.Common.{◌<◌, ◌%◌, ℕ, refl, sym, subst, true≢false, below_more, arith}
use Rattle.part_geometry.specs.Cells.{cells}
use Rattle.part_geometry.specs.Pieces.{piece_of, TouchesRecv}
use Rattle.part_geometry.proofs.PieceFacts.{piece-ordered, piece_of-inside}
use Rattle.pair_core.specs.Names.{Piece}
use Rattle.pair_core.specs.Reading.{IsFull}
use Rattle.pair_core.proofs.Cut.{cell_piece, cell_touches_recv}
use Rattle.pair_core.proofs.state.CoreState.sees_over.Goals as goal

pub returns-then-not-sees_cell : goal.returns-then-not-sees_cell
returns-then-not-sees_cell c = λ core shows.
    let g = c.args.self.now.tables in
    let low : c.loop-c.c < cells g = omega (arith, c.cells-c-end.ensures.value) in
    let t = cell_touches_recv g c.loop-c.c low in (
      λ no. absurd (true≢false (sym no)),
      λ all. (c.if-not-sees_cell.ensures core shows).1 (λ same.
          all (piece_of g c.loop-c.c) (cell_piece g c.loop-c.c low) (subst (λ (q : ℕ). TouchesRecv g (piece_of g c.loop-c.c) q) same t)),
    )

pub loop-c-preserved : goal.loop-c-preserved
loop-c-preserved c = λ core shows. below_more _ _ (c.loop-c.invariant core shows) ((c.if-not-sees_cell.ensures core shows).0 refl)

pub returns : goal.returns
returns c = λ core shows. (
  λ _ i inside touch.
      let g = c.args.self.now.tables in
      let bound = piece-ordered g i inside in
      let is = piece_of-inside g i touch.0 inside touch.1 touch.2 in
      let h = touch.2 in let b = bound.1 in
      subst (λ (z : ℕ). IsFull g (core.seen 1 (Piece (c.args.round % g.depth) z)) c.args.round z) is (c.loop-c.invariant core shows touch.0 (omega (arith, c.cells-c-end.ensures.value)) touch.3),
  λ _. refl,
)
