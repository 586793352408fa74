use Rattle.std.proofs.Common.{◌≡◌, ℕ, ap, ◌∙◌, arith, length, get_or, ◌+◌, sym, false}
use Rattle.slot_rows.specs.Lists.{rotated}
use Rattle.slot_rows.specs.Lanes.{width, place}
use Rattle.slot_rows.specs.declared.lane.Lane.{Lane}
use Rattle.slot_rows.proofs.Lists.{rotated_twice, rotated_length}
use Rattle.slot_rows.proofs.Lanes.{wide_more, wide_below}
use Rattle.slot_rows.proofs.passes.pass.Goals as goal

abbrev none : Lane
none = record { first = 0; count = 0; taken = false; out = false }

pub pass_one-requires : goal.pass_one-requires
pass_one-requires g c =
    let ls = c.args.lanes.now in let i = c.loop-lane.lane-index in let l = c.args.seat.now.me.1 in
    let a = wide_more i ls none c.loop-lane-test.true in let b = wide_below (i + 1) ls in
    let d : length c.loop-lane.seat.me.1 ≡ length (rotated (place ls i) l) = ap (λ m. length m.1) c.loop-lane.invariant.turned in
    let r = c.requires in
    let e = rotated_length (place ls i) l (omega arith) in omega arith

pub loop-lane-preserved : goal.loop-lane-preserved
loop-lane-preserved g c =
    let ls = c.args.lanes.now in let i = c.loop-lane.lane-index in let l = c.args.seat.now.me.1 in
    let a = wide_more i ls none c.loop-lane-test.true in let b = wide_below (i + 1) ls in
    let e = c.pass_one.ensures in let v = c.loop-lane.invariant in let r = c.requires in
    let w : ℕ = width (get_or ls i none) in
    let t = rotated_twice (place ls i) w l (omega arith) in
    record {
      table = e.seat.0 ∙ v.table;
      id = e.seat.1 ∙ v.id;
      turned = e.turned ∙ (ap (λ m. (m.0, rotated w m.1)) v.turned ∙ ap (λ z. (c.args.seat.now.me.0, z)) (t ∙ ap (λ n. rotated n l) (sym a)));
    }
