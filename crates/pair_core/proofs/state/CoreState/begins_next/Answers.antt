use Rattle.std.proofs.Common.{arith}
use Rattle.pair_core.proofs.state.CoreState.begins_next.Goals as goal

pub returns-then-i-self : goal.returns-then-i-self
returns-then-i-self c = grind arith

pub returns-else-i-self : goal.returns-else-i-self
returns-else-i-self c = grind arith

pub returns-then-round-ge1 : goal.returns-then-round-ge1
returns-then-round-ge1 c = grind arith

pub returns-else-round-ge1 : goal.returns-else-round-ge1
returns-else-round-ge1 c = grind arith
