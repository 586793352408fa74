use Rattle.plain_pair.proofs.Reaching.{takes_are_marked}
use Rattle.plain_pair.proofs.many.take_laws.Goals as goal

pub returns : goal.returns
returns c = record { marked = takes_are_marked }
