use Rattle.std.proofs.Common.{ℕ, subst}
use Rattle.pair_core.specs.Steps.{saw as saw_core}
use Rattle.pair_core.specs.Shows.{Shows}
use Rattle.pair_core.proofs.state.CoreState.look.Goals as goal

pub returns-clause-shows : goal.returns-clause-shows
returns-clause-shows c = λ core n x shows there fits at.
    subst (λ (w : ℕ). Shows c.saw.new.self (saw_core n x w core)) (c.word-word.ensures core x shows fits at) (c.saw.ensures.shows core n x shows there fits at)
