use Rattle.pair_core.proofs.laws.core_laws.Goals as goal
use Rattle.pair_core.proofs.Facts.{facts}
use Rattle.pair_core.proofs.Order.{order_always, stays_sound, takes_its_round}

pub returns-clause-sound : goal.returns-clause-sound
returns-clause-sound g c = stays_sound

pub returns-clause-order : goal.returns-clause-order
returns-clause-order g c = order_always

pub returns-clause-slots : goal.returns-clause-slots
returns-clause-slots g c = takes_its_round

pub returns-clause-facts : goal.returns-clause-facts
returns-clause-facts g c = facts
