use Rattle.std.proofs.Common.{◌≡◌, ℕ, ◌≤◌, ◌-◌, Option, Some, length, length-set, set, sym, ap, ◌∙◌, subst}
use Rattle.part_geometry.specs.Shape.{Shape}
use Rattle.pair_rule.specs.Buf.{Buf, buf}
use Rattle.pair_rule.specs.Rule.{slot_number}
use Rattle.pair_rule.specs.Seats.{MarkHeld, values}
use Rattle.pair_rule.specs.Steps.{Seat}
use Rattle.pair_rule.specs.Marking.{HasOut, spot}
use Rattle.pair_rule.specs.declared.view.Standing.TheVariants.{Seated}
use Rattle.pair_core.specs.Core.{IsMarker}
use Rattle.slot_rows.specs.Lists.{row}
use Rattle.pair_rule.proofs.Rows.{slot_set}
use Rattle.pair_rule.proofs.MarkSeats.{held_of, out_at, swapped}
use Rattle.pair_rule.proofs.pair.Pair.fill_marked.Goals as goal

-- the number of the slot, by the seat's view
by_view : (t g d : Shape) → t ≡ g → d ≡ g → (e c n : ℕ) → n ≡ slot_number t e c → n ≡ slot_number d e c
by_view t g d a b e c n is = is ∙ ap (λ (z : Shape). slot_number z e c) (a ∙ sym b)

pub overflow_sub-at : goal.overflow_sub-at
overflow_sub-at g c =
    let seat = c.seat.inside.seat in let h = c.requires.held in
    let is = by_view c.self.inside.tables c.self.inside.table.shared.key.geometry seat.me.0.geometry c.self.invariant.0 (ap (λ s. s.view.geometry) c.seat.view_is ∙ (c.requires.pair.1 ∙ sym (ap (λ q. q.key.geometry) c.self.view_is))) c.args.place c.args.cell c.slot_of-slot.result c.slot_of-slot.ensures in
    let low = (subst (λ (s : MarkHeld). HasOut s c.args.place c.args.cell (Some h.0)) (sym c.seat.view_is) h.1).from in
    subst (λ (z : ℕ). c.seat.inside.first ≤ z) (sym is) low

pub fill_slot-requires-clause-held : goal.fill_slot-requires-clause-held
fill_slot-requires-clause-held g c =
    let seat = c.seat.inside.seat in let first : ℕ = c.seat.inside.first in let h = c.requires.held in
    let is = by_view c.self.inside.tables c.self.inside.table.shared.key.geometry seat.me.0.geometry c.self.invariant.0 (ap (λ s. s.view.geometry) c.seat.view_is ∙ (c.requires.pair.1 ∙ sym (ap (λ q. q.key.geometry) c.self.view_is))) c.args.place c.args.cell c.slot_of-slot.result c.slot_of-slot.ensures in
    (h.0, out_at seat.table_id seat.me first c.seat.invariant.2 c.args.place c.args.cell c.slot_of-slot.result is (Some h.0) (subst (λ (s : MarkHeld). HasOut s c.args.place c.args.cell (Some h.0)) (sym c.seat.view_is) h.1), h.2)

pub invariant_of-seat : goal.invariant_of-seat
invariant_of-seat g c =
    let me : Seat = c.seat.inside.seat.me in let first : ℕ = c.seat.inside.first in let v = c.seat.invariant in let n : ℕ = c.slot_of-slot.result in let new : Option Buf = Some (buf c.args.round c.args.bytes.now) in
    let low : first ≤ n = (let h = subst (λ (s : MarkHeld). HasOut s c.args.place c.args.cell (Some c.requires.held.0)) (sym c.seat.view_is) c.requires.held.1 in
    let is = by_view c.self.inside.tables c.self.inside.table.shared.key.geometry me.0.geometry c.self.invariant.0 (ap (λ s. s.view.geometry) c.seat.view_is ∙ (c.requires.pair.1 ∙ sym (ap (λ q. q.key.geometry) c.self.view_is))) c.args.place c.args.cell n c.slot_of-slot.ensures in
    subst (λ (z : ℕ). first ≤ z) (sym is) h.from) in
    subst (λ (z : Seat). (z.0.standing ≡ Seated) × IsMarker z.0.number × (z.1 ≡ row first (values z.1)) × (c.seat.inside.count ≡ length z.1)) (sym c.fill_slot.ensures.slots)
    (v.0, v.1, slot_set me.1 first n new v.2 low, v.3 ∙ sym (length-set me.1 (n - first) (n, new)))

pub returns : goal.returns
returns g c =
    let seat = c.seat.inside.seat in let first : ℕ = c.seat.inside.first in let new : Option Buf = Some (buf c.args.round c.args.bytes.now) in
    let is = by_view c.self.inside.tables c.self.inside.table.shared.key.geometry seat.me.0.geometry c.self.invariant.0 (ap (λ s. s.view.geometry) c.seat.view_is ∙ (c.requires.pair.1 ∙ sym (ap (λ q. q.key.geometry) c.self.view_is))) c.args.place c.args.cell c.slot_of-slot.result c.slot_of-slot.ensures in
    record {
      step = (λ j. held_of (c.fill_slot.ensures.seat.0 j) (c.fill_slot.ensures.slots j) first)
          ∙ (swapped seat.table_id seat.me first c.seat.invariant.2 c.args.place c.args.cell c.slot_of-slot.result is new
          ∙ ap (λ (s : MarkHeld). record s { out = set s.out (spot s c.args.place c.args.cell) new }) c.seat.view_is);
    }
