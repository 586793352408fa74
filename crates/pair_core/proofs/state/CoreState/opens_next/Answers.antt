use Rattle.std.proofs.Common.{arith}
use Rattle.pair_core.proofs.state.CoreState.opens_next.Goals as goal

pub returns-then-self-pieces-clause-next : goal.returns-then-self-pieces-clause-next
returns-then-self-pieces-clause-next c = grind arith

pub returns-else-self-pieces-clause-next : goal.returns-else-self-pieces-clause-next
returns-else-self-pieces-clause-next c = grind arith
