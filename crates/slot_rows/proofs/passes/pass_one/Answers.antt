use Rattle.std.proofs.Common.{ap, ◌∙◌, arith, cond, sym, append-nil}
use Rattle.slot_rows.specs.Lists.{rotated}
use Rattle.slot_rows.proofs.passes.pass_one.Goals as goal

pub turn_times-requires : goal.turn_times-requires
turn_times-requires g c = let e = ap (λ b. cond b c.args.lane.now.count 0) c.if-lane.true in let r = c.requires in omega arith

pub returns-then-lane-clause-turned : goal.returns-then-lane-clause-turned
returns-then-lane-clause-turned g c = let e = ap (λ b. cond b c.args.lane.now.count 0) c.if-lane.true in c.turn_times.ensures.turned ∙ ap (λ n. (c.args.seat.now.me.0, rotated n c.args.seat.now.me.1)) (sym e)

pub returns-else-lane-clause-turned : goal.returns-else-lane-clause-turned
returns-else-lane-clause-turned g c =
    let e = ap (λ b. cond b c.args.lane.now.count 0) c.if-lane.false in let l = c.args.seat.now.me.1 in
    ap (λ z. (c.args.seat.now.me.0, z)) (sym (append-nil l)) ∙ ap (λ n. (c.args.seat.now.me.0, rotated n l)) (sym e)
