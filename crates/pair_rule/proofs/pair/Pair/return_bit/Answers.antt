use Rattle.std.proofs.Common.{rules, ◌≡◌, ℕ, ◌+◌, ◌++◌, true, false, List, take, drop, ap, sym, ◌∙◌, subst, length, arith, length-append, length-drop, length-take-le}
use Rattle.pair_core.specs.Moves.{ReturnPart}
use Rattle.slot_rows.specs.declared.lane.Lane.{Lane}
use Rattle.slot_rows.specs.Lanes.{place, flagged}
use Rattle.slot_rows.proofs.Lanes.{flagged_length}
use Rattle.pair_rule.specs.Seats.{AreLanes, cells_of}
use Rattle.pair_rule.specs.Steps.{MayMake, Seat}
use Rattle.pair_rule.specs.declared.view.View.{View}
use Rattle.pair_rule.specs.declared.view.Standing.TheVariants.{Seated}
use Rattle.pair_rule.proofs.LanesKept.{returned_lanes, may_return, lane_there, lane_spot, written}
use Rattle.pair_rule.proofs.pair.Pair.return_bit.Goals as goal

pub invariant_of-seat : goal.invariant_of-seat
invariant_of-seat g c =
    let e = c.return_bit_as-found.ensures in let me = c.seat.inside.seat.me in let i = c.seat.invariant in let ls : List Lane = c.seat.inside.lanes.items in let q : ℕ = c.args.q in
    let view : me.0 ≡ c.args.seat.now.view = ap (λ v. v.view) c.seat.view_is in
    let h : MayMake me.0 (ReturnPart q) = subst (λ (z : View). MayMake z (ReturnPart q)) (sym view) c.requires.allowed in
    let a : AreLanes me.0 (length me.1) ls = i.2 in
    let there = lane_there ls q (let p = a.parts in let b = h.1 in omega arith) in
    let f = may_return me.0 q (length me.1) ls there.0 h a there.1 in
    let same : c.deref.result.now ≡ ls = search rules in
    let before : c.deref_mut.result.now ≡ ls = search rules in
    let size : length ls ≡ c.seat.inside.lanes.len = search rules in
    let set' : c.set_flags.new.lanes ≡ flagged true false q ls = c.set_flags.ensures ∙ ap (flagged true false q) before in
    let lanes = written c.seat.inside.lanes.len c.set_flags.new.lanes ls (ap length set' ∙ flagged_length true false q ls) size ∙ set' in
    let p : ℕ = place c.deref.result.now q in let n : ℕ = cells_of me.0.geometry q in
    let s = lane_spot me.0 q (length me.1) ls a h in let moved : p ≡ place ls q = ap (λ (z : List Lane). place z q) same in
    let left : length (take p me.1 ++ drop (p + n) me.1) + n ≡ length me.1 =
    let b = length-append (take p me.1) (drop (p + n) me.1) in let t = length-take-le p me.1 (omega arith) in let d = length-drop (p + n) me.1 in omega arith in
    subst (λ (z : Seat × List Lane). (z.0.0.standing ≡ Seated) × (z.0.0.number ≡ 1) × AreLanes z.0.0 (length z.0.1) z.1 × (length c.seat.inside.shelves.items ≡ z.0.0.geometry.recv_parts) × (c.seat.inside.round ≡ z.0.0.recv.round))
    (λ j. (sym e.step j, sym lanes j))
    (i.0, i.1, returned_lanes me.0 q (length me.1) c.return_bit_as-found.result ls a (length (take p me.1 ++ drop (p + n) me.1)) h e.word f left, i.3, i.4)
