use Rattle.std.proofs.Common.{rules, sym, subst}
use Rattle.gate_word.specs.Order.{IsLeastAbove}
use Rattle.gate_word.proofs.Laws.{join_both, least}
use Rattle.gate_word.proofs.order.join.Goals as goal

pub returns-clause-value : goal.returns-clause-value
returns-clause-value c = search (rules, join_both)

pub returns-clause-least : goal.returns-clause-least
returns-clause-least c = subst (IsLeastAbove c.args.a c.args.b) (sym (returns-clause-value c)) (least c.args.a c.args.b)
