-- The list is turned to the slot, its head changes, and the rest of the circle puts it back in its place.
use Rattle.std.proofs.Common.{◌≡◌, ℕ, ◌-◌, ◌∷◌, List, Option, Some, sym, ap, ◌∙◌, subst, arith}
use Rattle.atomic_table.specs.Table.{rest}
use Rattle.slot_rows.specs.Lists.{rotated}
use Rattle.slot_rows.proofs.Lists.{at_split, to_head, and_back, swapped_length, same_head}
use Rattle.pair_rule.specs.Buf.{Buf, buf}
use Rattle.pair_rule.specs.Steps.{Seat}
use Rattle.pair_rule.proofs.pair.Pair.fill_slot.Goals as goal

pub turn_times-requires : goal.turn_times-requires
turn_times-requires g c = let h = c.requires.held in let s = (at_split c.args.seat.now.me.1 c.args.at (c.args.slot, Some h.0) h.1).0 in omega arith

pub slot_mut-requires : goal.slot_mut-requires
slot_mut-requires g c =
    let h = c.requires.held in let l = c.args.seat.now.me.1 in let x : ℕ × Option Buf = (c.args.slot, Some h.0) in
    let to = ap (λ (z : Seat). z.1) c.turn_times.ensures.turned in (
      c.turn_times.ensures.seat.0 ∙ (c.requires.table ∙ ap (λ z. z.table) (sym c.self.view_is)),
      (Some h.0, subst (λ (y : List (ℕ × Option Buf)). y ≡ x ∷ rest y) (sym to) (to_head l c.args.at x h.1)),
    )

pub fill_held-requires : goal.fill_held-requires
fill_held-requires g c =
    let h = c.requires.held in let l = c.args.seat.now.me.1 in let x : ℕ × Option Buf = (c.args.slot, Some h.0) in let y : ℕ × Option Buf = (c.args.slot, c.slot_mut.result.now) in
    let to = ap (λ (z : Seat). z.1) c.turn_times.ensures.turned in
    let same = same_head x y (rotated c.args.at l) (to_head l c.args.at x h.1) (subst (λ (z : List (ℕ × Option Buf)). z ≡ y ∷ rest z) to c.slot_mut.ensures.value) in
    (h.0, sym same, h.2)

pub overflow_sub-count : goal.overflow_sub-count
overflow_sub-count g c = let h = c.requires.held in let n = c.requires.count in let s = (at_split c.args.seat.now.me.1 c.args.at (c.args.slot, Some h.0) h.1).0 in omega arith

pub turn_times-requires-2 : goal.turn_times-requires-2
turn_times-requires-2 g c =
    let h = c.requires.held in let n = c.requires.count in let l = c.args.seat.now.me.1 in let x : ℕ × Option Buf = (c.args.slot, Some h.0) in
    let s = (at_split l c.args.at x h.1).0 in let to = ap (λ (z : Seat). z.1) c.turn_times.ensures.turned in
    let k = swapped_length l c.turn_times.new.seat.me.1 (x ∷ rest c.turn_times.new.seat.me.1) c.args.at x x to (subst (λ (y : List (ℕ × Option Buf)). y ≡ x ∷ rest y) (sym to) (to_head l c.args.at x h.1)) (λ i. x ∷ rest c.turn_times.new.seat.me.1) (omega arith) in
    omega arith

pub returns-clause-slots : goal.returns-clause-slots
returns-clause-slots g c =
    let h = c.requires.held in let n = c.requires.count in let l = c.args.seat.now.me.1 in let x : ℕ × Option Buf = (c.args.slot, Some h.0) in let b : ℕ = c.args.count - c.args.at in
    let z : ℕ × Option Buf = (c.args.slot, Some (buf c.args.round c.args.bytes.now)) in
    let s = (at_split l c.args.at x h.1).0 in
    let turned : Seat = c.turn_times.new.seat.me in let after : Seat = (turned.0, (c.args.slot, c.fill_held.new.held) ∷ rest turned.1) in
    let whole : Seat = (c.args.seat.now.me.0, z ∷ rest (rotated c.args.at l)) in
    let left : after ≡ whole = ap (λ (y : Option Buf). (turned.0, (c.args.slot, y) ∷ rest turned.1)) c.fill_held.ensures ∙ ap (λ (m : Seat). (m.0, z ∷ rest m.1)) c.turn_times.ensures.turned in
    c.turn_times-2.ensures.turned ∙ (ap (λ (m : Seat). (m.0, rotated b m.1)) left ∙ ap (λ (m : List (ℕ × Option Buf)). (c.args.seat.now.me.0, m)) (and_back l c.args.at b x z h.1 (omega arith)))
