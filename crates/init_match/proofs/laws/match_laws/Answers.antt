use Rattle.init_match.proofs.PartnerLaws.{the_partner}
use Rattle.init_match.proofs.laws.match_laws.Goals as goal

pub returns-clause-partner : goal.returns-clause-partner
returns-clause-partner c = the_partner
