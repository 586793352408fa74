use Rattle.std.proofs.Common.{◌<◌, ◌%◌, ℕ}
use Rattle.pair_core.specs.Names.{Piece}
use Rattle.pair_core.specs.Core.{Core}
use Rattle.pair_core.specs.Reading.{IsFull}
use Rattle.pair_core.specs.State.{Plain}
use Rattle.pair_core.specs.Shows.{Shows}
use Rattle.pair_core.proofs.state.CoreState.sees_out.Given as goal

abbrev pub invariant-loop-i : goal.invariant-loop-i
invariant-loop-i l = (core : Core Plain) → Shows l.fn.self core → (i : ℕ) → i < l.i → IsFull l.fn.self.tables (core.seen 0 (Piece (l.fn.round % l.fn.self.tables.depth) i)) l.fn.round i
