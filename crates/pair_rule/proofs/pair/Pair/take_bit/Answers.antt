use Rattle.std.proofs.Common.{rules, ◌≡◌, ℕ, ◌+◌, ◌^◌, ◌%◌, bit_or, true, List, [], Some, map, ap, sym, ◌∙◌, subst, length, arith}
use Rattle.std.proofs.lemmas.List.{length-map}
use Rattle.pair_core.specs.Moves.{TakePart}
use Rattle.slot_rows.specs.declared.lane.Lane.{Lane}
use Rattle.slot_rows.specs.Lists.{spliced}
use Rattle.slot_rows.specs.Lanes.{place, flagged}
use Rattle.slot_rows.proofs.Lists.{spliced_length}
use Rattle.slot_rows.proofs.Lanes.{flagged_length}
use Rattle.pair_rule.specs.Views.{taken}
use Rattle.pair_rule.specs.Seats.{AreLanes, cells_of}
use Rattle.pair_rule.specs.Steps.{MayMake, Seat}
use Rattle.pair_rule.specs.Parts.{first_slot, place_of}
use Rattle.pair_rule.specs.declared.view.View.{View}
use Rattle.pair_rule.specs.declared.view.Standing.TheVariants.{Seated}
use Rattle.pair_rule.proofs.LanesKept.{taken_lanes, may_take, lane_there, written}
use Rattle.pair_rule.proofs.pair.Pair.take_bit.Goals as goal

pub invariant_of-seat : goal.invariant_of-seat
invariant_of-seat g c =
    let e = c.take_bit_as-found.ensures in let me = c.seat.inside.seat.me in let i = c.seat.invariant in let ls : List Lane = c.seat.inside.lanes.items in let q : ℕ = c.args.q in
    let view : me.0 ≡ c.args.seat.now.view = ap (λ v. v.view) c.seat.view_is in
    let h : MayMake me.0 (TakePart q []) = subst (λ (z : View). MayMake z (TakePart q [])) (sym view) c.requires.allowed in
    let a : AreLanes me.0 (length me.1) ls = i.2 in
    let there = lane_there ls q (let p = a.parts in let b = h.1 in omega arith) in
    let f = may_take me.0 q (length me.1) ls there.0 h a there.1 in
    let before : c.deref_mut.result.now ≡ ls = search rules in
    let size : length ls ≡ c.seat.inside.lanes.len = search rules in
    let set' : c.set_flags.new.lanes ≡ flagged true true q ls = c.set_flags.ensures ∙ ap (flagged true true q) before in
    let lanes = written c.seat.inside.lanes.len c.set_flags.new.lanes ls (ap length set' ∙ flagged_length true true q ls) size ∙ set' in
    let t = e.step in let p : ℕ = place c.deref.result.now q in let k : ℕ = first_slot me.0.geometry (place_of me.0) q in
    let long : length (spliced p k (map Some t.0) me.1) ≡ length me.1 + cells_of me.0.geometry q =
    let s = spliced_length p k (map Some t.0) me.1 in let m = length-map t.0 Some in let n = t.2.size in omega arith in
    subst (λ (z : Seat × List Lane). (z.0.0.standing ≡ Seated) × (z.0.0.number ≡ 1) × AreLanes z.0.0 (length z.0.1) z.1 × (length c.seat.inside.shelves.items ≡ z.0.0.geometry.recv_parts) × (c.seat.inside.round ≡ z.0.0.recv.round))
    (λ j. (sym t.3 j, sym lanes j))
    (i.0, i.1, subst (λ (z : ℕ). AreLanes (taken q t.1 (bit_or c.take_bit_as-found.result (2 ^ (q % 32))) me.0) z (flagged true true q ls)) (sym long) (taken_lanes me.0 q (length me.1) c.take_bit_as-found.result ls a t.1 h e.word f), i.3, i.4)
