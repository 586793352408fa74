use Rattle.std.proofs.Common.{◌≢◌, ◌<◌, ℕ, false}
use Rattle.part_geometry.specs.Pieces.{Touches}
use Rattle.pair_core.specs.Core.{has}
use Rattle.pair_core.proofs.lay.is_last.Given as goal

abbrev pub invariant-loop-j : goal.invariant-loop-j
invariant-loop-j l = (j : ℕ) → j < l.j → j ≢ l.i → Touches l.tables j l.pending.partition → has l.pending.laid j ≢ false
