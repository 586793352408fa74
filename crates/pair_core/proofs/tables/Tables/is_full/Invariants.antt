use Rattle.std.proofs.Common.{◌≡◌, ◌<◌, ℕ}
use Rattle.pair_core.specs.Words.{bit}
use Rattle.pair_core.proofs.tables.Tables.is_full.Given as goal

abbrev pub invariant-loop-b : goal.invariant-loop-b
invariant-loop-b l = (j : ℕ) → j < l.b → bit l.word j ≡ 1
