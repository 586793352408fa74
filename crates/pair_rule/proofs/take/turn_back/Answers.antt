use Rattle.std.proofs.Common.{ℕ, ◌+◌, drop, ap, ◌∙◌}
use Rattle.slot_rows.specs.Lists.{rotated}
use Rattle.slot_rows.specs.Lanes.{wide}
use Rattle.slot_rows.proofs.Lists.{rotated_twice}
use Rattle.pair_rule.specs.Steps.{Seat}
use Rattle.pair_rule.proofs.take.turn_back.Goals as goal

pub returns-clause-turned : goal.returns-clause-turned
returns-clause-turned c =
    let me = c.args.seat.now.me in let k : ℕ = c.args.count in let w : ℕ = wide (drop (c.args.at + 1) c.args.lanes.now) in
    c.pass_from.ensures.turned ∙ (ap (λ (z : Seat). (z.0, rotated w z.1)) c.turn_times.ensures.turned ∙ λ i. (me.0, rotated_twice k w me.1 c.requires.here i))
