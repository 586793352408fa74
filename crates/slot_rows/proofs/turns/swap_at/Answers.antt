-- The list is turned to the slot, its head changes, and the rest of the circle puts it back in its place.
use Rattle.std.proofs.Common.{◌≡◌, ℕ, ◌∷◌, ◌-◌, sym, ap, ◌∙◌, subst, arith}
use mathlib.Core.Option.{some}
use Rattle.atomic_table.specs.Table.{rest}
use Rattle.slot_rows.specs.Lists.{rotated}
use Rattle.slot_rows.proofs.Lists.{at_split, to_head, and_back, swapped_length, same_head}
use Rattle.slot_rows.proofs.turns.swap_at.Goals as goal

pub turn_times-requires : goal.turn_times-requires
turn_times-requires g c = let h = c.requires.held in let s = (at_split c.args.seat.now.me.1 c.args.at (c.args.slot, h.0) h.1).0 in omega arith

pub exchange-old-requires : goal.exchange-old-requires
exchange-old-requires g c =
    let h = c.requires.held in let l = c.args.seat.now.me.1 in let x : ℕ × g.row.S.Denot = (c.args.slot, h.0) in
    let to = ap (λ z. z.1) c.turn_times.ensures.turned in (
      c.turn_times.ensures.seat.0 ∙ c.requires.table,
      (h.0, subst (λ y. y ≡ x ∷ rest y) (sym to) (to_head l c.args.at x h.1)),
    )

pub overflow_sub-count : goal.overflow_sub-count
overflow_sub-count g c = let h = c.requires.held in let n = c.requires.count in let s = (at_split c.args.seat.now.me.1 c.args.at (c.args.slot, h.0) h.1).0 in omega arith

pub turn_times-requires-2 : goal.turn_times-requires-2
turn_times-requires-2 g c =
    let h = c.requires.held in let n = c.requires.count in let l = c.args.seat.now.me.1 in let x = c.exchange-old.ensures in
    let s = (at_split l c.args.at (c.args.slot, h.0) h.1).0 in
    let k = swapped_length l c.turn_times.new.seat.me.1 c.exchange-old.new.seat.me.1 c.args.at (c.args.slot, c.exchange-old.result) (c.args.slot, c.args.new) (ap (λ z. z.1) c.turn_times.ensures.turned) x.2 (ap (λ z. z.1) x.3) (omega arith) in
    omega arith

pub returns-clause-found : goal.returns-clause-found
returns-clause-found g c =
    let h = c.requires.held in let l = c.args.seat.now.me.1 in let x : ℕ × g.row.S.Denot = (c.args.slot, h.0) in let y : ℕ × g.row.S.Denot = (c.args.slot, c.exchange-old.result) in
    let to = ap (λ z. z.1) c.turn_times.ensures.turned in
    let same = same_head x y (rotated c.args.at l) (to_head l c.args.at x h.1) (subst (λ z. z ≡ y ∷ rest z) to c.exchange-old.ensures.2) in
    h.1 ∙ ap (λ z. some (c.args.slot, z)) same

pub returns-clause-slots : goal.returns-clause-slots
returns-clause-slots g c =
    let h = c.requires.held in let n = c.requires.count in let l = c.args.seat.now.me.1 in let x : ℕ × g.row.S.Denot = (c.args.slot, h.0) in let b : ℕ = c.args.count - c.args.at in
    let s = (at_split l c.args.at x h.1).0 in
    let ex = c.exchange-old.ensures.3 ∙ ap (λ z. (z.0, (c.args.slot, c.args.new) ∷ rest z.1)) c.turn_times.ensures.turned in
    c.turn_times-2.ensures.turned ∙ (ap (λ z. (z.0, rotated b z.1)) ex ∙ ap (λ z. (c.args.seat.now.me.0, z)) (and_back l c.args.at b x (c.args.slot, c.args.new) h.1 (omega arith)))
