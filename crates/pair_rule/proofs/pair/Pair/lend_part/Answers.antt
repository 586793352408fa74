-- The list is turned to the slot, its head changes, and the rest of the circle puts it back in its place.
use Rattle.std.proofs.Common.{◌≡◌, ℕ, ◌+◌, ◌-◌, ◌*◌, ◌<◌, Option, Some, true, length, drop, set, sym, ap, ◌∙◌, subst, arith}
use mathlib.Core.Option.{some}
use lib.ListN.{get_elem?}
use Rattle.part_geometry.specs.Shape.{Shape}
use Rattle.slot_rows.specs.Lists.{rotated}
use Rattle.slot_rows.specs.Lanes.{wide, place}
use Rattle.slot_rows.proofs.Lists.{at_split}
use Rattle.pair_rule.specs.Buf.{Buf}
use Rattle.pair_rule.specs.Seats.{cells_of}
use Rattle.pair_rule.specs.Steps.{Seat}
use Rattle.pair_rule.specs.Parts.{first_slot}
use Rattle.pair_rule.proofs.LanesKept.{flags_there}
use Rattle.pair_rule.proofs.Leaving.{lane_room, slot_is, turned_head, turned_value, turned_length, turned_set}
use Rattle.pair_rule.proofs.pair.Pair.lend_part.Goals as goal

pub received-first-requires : goal.received-first-requires
received-first-requires g c =
    let me = c.args.seat.now.me in
    let same : me.0.geometry ≡ c.self.inside.tables = (c.requires.pair.1 ∙ ap (λ v. v.key.geometry) (sym c.self.view_is)) ∙ sym c.self.invariant.0 in
    subst (λ (z : Shape). c.args.q < z.recv_parts) same (flags_there me.0 (length me.1) c.args.q c.args.lanes.now true true c.requires.lanes c.requires.out)

pub turn_to-requires-clause-at : goal.turn_to-requires-clause-at
turn_to-requires-clause-at g c = let o = c.requires.out in let s = (at_split c.args.lanes.now c.args.q o.lane o.at).0 in omega arith

pub turn_to-requires-clause-here : goal.turn_to-requires-clause-here
turn_to-requires-clause-here g c =
    let me = c.args.seat.now.me in let r = lane_room me.0 (length me.1) c.args.q c.args.lanes.now c.requires.lanes c.requires.out in let i = c.requires.index in omega arith

pub slot_mut-requires : goal.slot_mut-requires
slot_mut-requires g c =
    let me = c.args.seat.now.me in let q : ℕ = c.args.q in let i : ℕ = c.args.index in let h = c.requires.held in let m : ℕ = place c.args.lanes.now q + i in
    let same : c.self.inside.tables ≡ me.0.geometry = c.self.invariant.0 ∙ sym (c.requires.pair.1 ∙ ap (λ v. v.key.geometry) (sym c.self.view_is)) in
    let slot : ℕ = c.args.place * c.slot_row.result + c.received-first.result.0 + i in
    let number : slot ≡ first_slot me.0.geometry c.args.place q + i =
    slot_is c.self.inside.tables me.0.geometry same c.args.place q i c.slot_row.result c.received-first.result.0 c.slot_row.ensures.value (ap (λ z. z.0) c.received-first.ensures.value) in
    let x : ℕ × Option Buf = (slot, Some h.0) in
    let at : get_elem? me.1 m ≡ some x = h.1 ∙ ap (λ (z : ℕ). some (z, Some h.0)) (sym number) in
    let to : c.turn_to.new.seat.me.1 ≡ rotated m me.1 = ap (λ (z : Seat). z.1) c.turn_to.ensures.turned in
    (c.turn_to.ensures.seat.0 ∙ (c.requires.pair.0 ∙ ap (λ z. z.table) (sym c.self.view_is)), (Some h.0, turned_head me.1 c.turn_to.new.seat.me.1 m x at to))

pub lend_held-buf-requires : goal.lend_held-buf-requires
lend_held-buf-requires g c =
    let me = c.args.seat.now.me in let q : ℕ = c.args.q in let i : ℕ = c.args.index in let h = c.requires.held in let m : ℕ = place c.args.lanes.now q + i in
    let same : c.self.inside.tables ≡ me.0.geometry = c.self.invariant.0 ∙ sym (c.requires.pair.1 ∙ ap (λ v. v.key.geometry) (sym c.self.view_is)) in
    let slot : ℕ = c.args.place * c.slot_row.result + c.received-first.result.0 + i in
    let number : slot ≡ first_slot me.0.geometry c.args.place q + i =
    slot_is c.self.inside.tables me.0.geometry same c.args.place q i c.slot_row.result c.received-first.result.0 c.slot_row.ensures.value (ap (λ z. z.0) c.received-first.ensures.value) in
    let x : ℕ × Option Buf = (slot, Some h.0) in
    let at : get_elem? me.1 m ≡ some x = h.1 ∙ ap (λ (z : ℕ). some (z, Some h.0)) (sym number) in
    let to : c.turn_to.new.seat.me.1 ≡ rotated m me.1 = ap (λ (z : Seat). z.1) c.turn_to.ensures.turned in
    (h.0, sym (turned_value me.1 c.turn_to.new.seat.me.1 m x at to c.slot_mut.result.now c.slot_mut.ensures.value))

pub turn_back-requires-clause-at : goal.turn_back-requires-clause-at
turn_back-requires-clause-at g c = let o = c.requires.out in (at_split c.args.lanes.now c.args.q o.lane o.at).0

pub turn_back-requires-clause-here : goal.turn_back-requires-clause-here
turn_back-requires-clause-here g c =
    let me = c.args.seat.now.me in let q : ℕ = c.args.q in let i : ℕ = c.args.index in let h = c.requires.held in let m : ℕ = place c.args.lanes.now q + i in
    let same : c.self.inside.tables ≡ me.0.geometry = c.self.invariant.0 ∙ sym (c.requires.pair.1 ∙ ap (λ v. v.key.geometry) (sym c.self.view_is)) in
    let slot : ℕ = c.args.place * c.slot_row.result + c.received-first.result.0 + i in
    let number : slot ≡ first_slot me.0.geometry c.args.place q + i =
    slot_is c.self.inside.tables me.0.geometry same c.args.place q i c.slot_row.result c.received-first.result.0 c.slot_row.ensures.value (ap (λ z. z.0) c.received-first.ensures.value) in
    let x : ℕ × Option Buf = (slot, Some h.0) in
    let at : get_elem? me.1 m ≡ some x = h.1 ∙ ap (λ (z : ℕ). some (z, Some h.0)) (sym number) in
    let to : c.turn_to.new.seat.me.1 ≡ rotated m me.1 = ap (λ (z : Seat). z.1) c.turn_to.ensures.turned in
    let count = ap (λ z. z.1 - z.0) c.received-first.ensures.value ∙ ap (λ (z : Shape). cells_of z q) same in
    let r = lane_room me.0 (length me.1) q c.args.lanes.now c.requires.lanes c.requires.out in let low = c.requires.index in
    let long = turned_length me.1 c.turn_to.new.seat.me.1 m x at to in omega arith

pub returns-clause-found : goal.returns-clause-found
returns-clause-found g c =
    let me = c.args.seat.now.me in let q : ℕ = c.args.q in let i : ℕ = c.args.index in let h = c.requires.held in let m : ℕ = place c.args.lanes.now q + i in
    let same : c.self.inside.tables ≡ me.0.geometry = c.self.invariant.0 ∙ sym (c.requires.pair.1 ∙ ap (λ v. v.key.geometry) (sym c.self.view_is)) in
    let slot : ℕ = c.args.place * c.slot_row.result + c.received-first.result.0 + i in
    let number : slot ≡ first_slot me.0.geometry c.args.place q + i =
    slot_is c.self.inside.tables me.0.geometry same c.args.place q i c.slot_row.result c.received-first.result.0 c.slot_row.ensures.value (ap (λ z. z.0) c.received-first.ensures.value) in
    let x : ℕ × Option Buf = (slot, Some h.0) in
    let at : get_elem? me.1 m ≡ some x = h.1 ∙ ap (λ (z : ℕ). some (z, Some h.0)) (sym number) in
    let to : c.turn_to.new.seat.me.1 ≡ rotated m me.1 = ap (λ (z : Seat). z.1) c.turn_to.ensures.turned in
    h.1 ∙ ap (λ (z : Option Buf). some (first_slot me.0.geometry c.args.place q + i, z)) (turned_value me.1 c.turn_to.new.seat.me.1 m x at to c.slot_mut.result.now c.slot_mut.ensures.value ∙ c.lend_held-buf.ensures.found)

pub returns-clause-slots : goal.returns-clause-slots
returns-clause-slots g c =
    let me = c.args.seat.now.me in let q : ℕ = c.args.q in let i : ℕ = c.args.index in let h = c.requires.held in let m : ℕ = place c.args.lanes.now q + i in
    let same : c.self.inside.tables ≡ me.0.geometry = c.self.invariant.0 ∙ sym (c.requires.pair.1 ∙ ap (λ v. v.key.geometry) (sym c.self.view_is)) in
    let slot : ℕ = c.args.place * c.slot_row.result + c.received-first.result.0 + i in
    let number : slot ≡ first_slot me.0.geometry c.args.place q + i =
    slot_is c.self.inside.tables me.0.geometry same c.args.place q i c.slot_row.result c.received-first.result.0 c.slot_row.ensures.value (ap (λ z. z.0) c.received-first.ensures.value) in
    let x : ℕ × Option Buf = (slot, Some h.0) in
    let at : get_elem? me.1 m ≡ some x = h.1 ∙ ap (λ (z : ℕ). some (z, Some h.0)) (sym number) in
    let to : c.turn_to.new.seat.me.1 ≡ rotated m me.1 = ap (λ (z : Seat). z.1) c.turn_to.ensures.turned in
    let count = ap (λ z. z.1 - z.0) c.received-first.ensures.value ∙ ap (λ (z : Shape). cells_of z q) same in
    let r = lane_room me.0 (length me.1) q c.args.lanes.now c.requires.lanes c.requires.out in let low = c.requires.index in
    let b : ℕ = c.received-first.result.1 - c.received-first.result.0 - i + wide (drop (q + 1) c.args.lanes.now) in
    let turned : Seat = c.turn_to.new.seat.me in let view = ap (λ (z : Seat). z.0) c.turn_to.ensures.turned in
    let z : ℕ × Option Buf = (slot, c.lend_held-buf.new.held) in (
      c.lend_held-buf.new.held,
      c.lend_held-buf.ensures.left,
      c.turn_back.ensures.turned ∙ ((λ j. (view j, turned_set me.1 turned.1 m x at to b z (omega arith) j)) ∙ (λ j. (me.0, set me.1 m (number j, c.lend_held-buf.new.held)))),
    )
