use Rattle.pair_rule.proofs.laws.rule_laws.Goals as goal
use Rattle.pair_rule.proofs.LawFacts.{consistent, leads_on}

pub returns-clause-views : goal.returns-clause-views
returns-clause-views g c = consistent g.C.Content.may

pub returns-clause-steps : goal.returns-clause-steps
returns-clause-steps g c = leads_on g.C.Content.may
