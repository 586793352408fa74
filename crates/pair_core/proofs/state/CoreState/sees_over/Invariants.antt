use Rattle.std.proofs.Common.{◌≡◌, ◌<◌, ◌%◌, ℕ}
use Rattle.part_geometry.specs.Cells.{recv_of}
use Rattle.part_geometry.specs.Pieces.{piece_of}
use Rattle.pair_core.specs.Names.{Piece}
use Rattle.pair_core.specs.Core.{Core}
use Rattle.pair_core.specs.Reading.{IsFull}
use Rattle.pair_core.specs.State.{Plain}
use Rattle.pair_core.specs.Shows.{Shows}
use Rattle.pair_core.proofs.state.CoreState.sees_over.Given as goal

abbrev pub invariant-loop-c : goal.invariant-loop-c
invariant-loop-c l = (core : Core Plain) → Shows l.fn.self core → (c : ℕ) → c < l.c → recv_of l.fn.self.tables c ≡ l.fn.q
    → IsFull l.fn.self.tables (core.seen 1 (Piece (l.fn.round % l.fn.self.tables.depth) (piece_of l.fn.self.tables c))) l.fn.round (piece_of l.fn.self.tables c)
