use Rattle.std.proofs.Common.{◌↔◌, ◌∙◌, ◌%◌, ℕ, sym, subst, ap, arith}
use Rattle.std.specs.Prelude.{IsTrue}
use Rattle.part_geometry.specs.declared.walk.Cell.{Cell}
use Rattle.pair_core.specs.Names.{Piece}
use Rattle.pair_core.specs.Reading.{IsFull}
use Rattle.pair_core.proofs.Cut.{cell_piece}
use Rattle.pair_core.proofs.StateSeats.{recv_at}
use Rattle.pair_core.proofs.state.CoreState.sees_cell.Goals as goal

pub sees_full-requires-clause-piece : goal.sees_full-requires-clause-piece
sees_full-requires-clause-piece c =
    let e = ap (λ (z : Cell). z.piece) c.cell-cell.ensures in let low = cell_piece c.args.self.now.tables c.args.c c.requires in omega arith

pub returns : goal.returns
returns c = λ core shows.
    let s = c.args.self.now in
    let at = recv_at s.tables s.words.items s.slots.items s.send s.recv s.seats.items s.kept in
    let same = sym (ap (λ (z : Cell). z.recv) c.cell-cell.ensures) ∙ c.if-cell-q.false in
    let iff = subst (λ (z : ℕ). IsTrue c.sees_full.result ↔ IsFull s.tables (core.seen 1 (Piece (c.args.round % s.tables.depth) z)) c.args.round z)
    (ap (λ (z : Cell). z.piece) c.cell-cell.ensures) (c.sees_full.ensures core 1 shows at) in
    (λ so _. iff.0 so, λ each. iff.1 (each same))
