use Rattle.std.proofs.Common.{rules, ◌≡◌, List, ap, sym, ◌∙◌, subst, length, ◌*◌}
use Rattle.pair_core.specs.Moves.{StoreTake}
use Rattle.slot_rows.specs.declared.lane.Lane.{Lane}
use Rattle.pair_rule.specs.Seats.{AreLanes}
use Rattle.pair_rule.specs.Steps.{MayMake, Seat}
use Rattle.pair_rule.specs.Parts.{fresh_lanes}
use Rattle.pair_rule.specs.declared.view.View.{View}
use Rattle.pair_rule.specs.declared.view.Standing.TheVariants.{Seated}
use Rattle.pair_rule.proofs.LanesKept.{take_lanes, untaken_length, written}
use Rattle.pair_rule.proofs.pair.Pair.store_take.Goals as goal

pub invariant_of-seat : goal.invariant_of-seat
invariant_of-seat g c =
    let e = c.store_take_as.ensures in let me = c.seat.inside.seat.me in let i = c.seat.invariant in let ls : List Lane = c.seat.inside.lanes.items in
    let view : me.0 ≡ c.args.seat.now.view = ap (λ v. v.view) c.seat.view_is in
    let h : MayMake me.0 (StoreTake c.args.round c.args.word) = subst (λ (z : View). MayMake z (StoreTake c.args.round c.args.word)) (sym view) c.requires.allowed in
    let before : c.deref_mut.result.now ≡ ls = search rules in
    let size : length ls ≡ c.seat.inside.lanes.len = search rules in
    let set' : c.renew.new.lanes ≡ fresh_lanes c.args.word ls = c.renew.ensures ∙ ap (fresh_lanes c.args.word) before in
    let lanes = written c.seat.inside.lanes.len c.renew.new.lanes ls (ap length set' ∙ untaken_length (32 * c.args.word) 32 ls) size ∙ set' in
    subst (λ (z : Seat × List Lane). (z.0.0.standing ≡ Seated) × (z.0.0.number ≡ 1) × AreLanes z.0.0 (length z.0.1) z.1 × (length c.seat.inside.shelves.items ≡ z.0.0.geometry.recv_parts) × (c.seat.inside.round ≡ z.0.0.recv.round))
    (λ j. (sym e.step j, sym lanes j)) (i.0, i.1, take_lanes me.0 c.args.round c.args.word (length me.1) ls h i.2, i.3, i.4)
