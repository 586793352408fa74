use Rattle.std.proofs.Common.{arith}
use Rattle.pair_core.proofs.tables.Tables.piece_at.Goals as goal

pub returns-then-word-first-2-clause-none : goal.returns-then-word-first-2-clause-none
returns-then-word-first-2-clause-none c = grind arith

pub returns-then-word-first-clause-none : goal.returns-then-word-first-clause-none
returns-then-word-first-clause-none c = grind arith

pub returns-clause-some : goal.returns-clause-some
returns-clause-some c = grind arith
