use Rattle.std.proofs.Common.{sym, ap, ◌∙◌}
use Rattle.script_pair.specs.Desk.{is_freed}
use Rattle.script_pair.proofs.Holding.{in_use, state_is}
use Rattle.script_pair.proofs.held.MatchedPair.is_freed.Goals as goal

pub returns-clause-value : goal.returns-clause-value
returns-clause-value c = λ d st. c.is_freed_state.ensures ∙ ap is_freed (c.state.ensures.value ∙ state_is _ d c.args.side st)

pub returns-clause-in_use : goal.returns-clause-in_use
returns-clause-in_use c = λ f. rw (← c.state.ensures.value) (in_use c.state.result c.state.ensures.matched (sym c.is_freed_state.ensures ∙ f))
