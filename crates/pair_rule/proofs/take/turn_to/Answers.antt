use Rattle.std.proofs.Common.{ℕ, ap, ◌∙◌}
use Rattle.slot_rows.specs.Lists.{rotated}
use Rattle.slot_rows.proofs.Lists.{rotated_twice}
use Rattle.pair_rule.specs.Steps.{Seat}
use Rattle.pair_rule.specs.Parts.{spot}
use Rattle.pair_rule.proofs.take.turn_to.Goals as goal

pub returns-clause-turned : goal.returns-clause-turned
returns-clause-turned c =
    let me = c.args.seat.now.me in let p : ℕ = spot c.args.lanes.now c.args.at in let k : ℕ = c.args.index in
    c.turn_times.ensures.turned ∙ (ap (λ (z : Seat). (z.0, rotated k z.1)) c.pass_to.ensures.turned ∙ λ i. (me.0, rotated_twice p k me.1 c.requires.here i))
