use Rattle.std.proofs.Common.{ap, ◌∙◌}
use Rattle.pair_rule.specs.Seats.{Held}
use Rattle.running_tests.proofs.Sending.{start_same}
use Rattle.running_tests.proofs.ends.start.Goals as goal

pub returns : goal.returns
returns c = (
  ap (λ (z : Held). z.table) c.start.ensures.end ∙ c.requires.0,
  ap (λ (z : Held). z.view.geometry) c.start.ensures.end ∙ start_same c.args.end.now.view c.start.result ∙ c.requires.1,
)
