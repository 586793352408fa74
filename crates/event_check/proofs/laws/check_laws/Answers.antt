use Rattle.event_check.proofs.OneOutput.{one-output}
use Rattle.event_check.proofs.laws.check_laws.Goals as goal

pub returns : goal.returns
returns c = one-output c.event_laws.ensures.same
