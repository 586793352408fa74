use Rattle.std.proofs.Common.{◌≡◌, ℕ, ◌-◌, ◌++◌, ◌∷◌, [], true, false, sym, ◌∙◌, arith}
use Rattle.std.proofs.lemmas.List.FromFn.{map-range_with_len_more}
use Rattle.slot_rows.specs.declared.lane.Lane.{Lane}
use Rattle.pair_rule.specs.Parts.{first_lane}
use Rattle.pair_rule.proofs.take.lay_lanes.Goals as goal

pub loop-q-preserved : goal.loop-q-preserved
loop-q-preserved c =
    let t = c.args.tables.now in let q : ℕ = c.loop-q.q in let r = c.received-first.ensures.value in
    let lane : ◌≡◌ {A = Lane} record { first = c.received-first.result.0; count = c.received-first.result.1 - c.received-first.result.0; taken = true; out = false } (first_lane t q) =
    λ i. record { first = (r i).0; count = (r i).1 - (r i).0; taken = true; out = false } in
    record { items = c.in_ok-push.ensures.items ∙ ((λ i. c.loop-q.invariant.items i ++ lane i ∷ []) ∙ sym (map-range_with_len_more (first_lane t) 0 q q (omega arith))) }
