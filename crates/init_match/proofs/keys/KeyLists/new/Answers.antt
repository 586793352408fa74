use Rattle.std.proofs.Common.{refl}
use Rattle.init_match.proofs.KeyFacts.{lists_none}
use Rattle.init_match.proofs.keys.KeyLists.new.Goals as goal

pub returns-clause-none : goal.returns-clause-none
returns-clause-none c s q = lists_none _ s q (rw c.new.ensures.empty refl)
