-- As `swap_at` at the place of the lane and the slot's number in it. The way there has two parts, and so has the rest of the circle.
use Rattle.std.proofs.Common.{rules, ◌≡◌, ℕ, List, ◌∷◌, ◌+◌, ◌-◌, ◌<◌, false, length, get_or, drop, sym, ap, ◌∙◌, subst, arith}
use mathlib.Core.Option.{some}
use Rattle.atomic_table.specs.Table.{rest}
use Rattle.slot_rows.specs.Lists.{rotated}
use Rattle.slot_rows.specs.Lanes.{wide, place, HasSlot}
use Rattle.slot_rows.specs.declared.lane.Lane.{Lane}
use Rattle.slot_rows.proofs.Lists.{at_split, get_or_at, rotated_length, changed, head_is, circle_length, same_head}
use Rattle.slot_rows.proofs.Lanes.{slot_spot}
use Rattle.slot_rows.proofs.passes.swap_in.Goals as goal

abbrev none : Lane
none = record { first = 0; count = 0; taken = false; out = false }

deep : (q c : ℕ) (ls : List Lane) → HasSlot q c ls → q < length ls
deep q c ls h = (at_split ls q h.lane h.at).0

-- where the slots of the lane stand, as the code reads its count
spot : (q c : ℕ) (ls : List Lane) → HasSlot q c ls → (place ls q + ((get_or ls q none).count + wide (drop (q + 1) ls)) ≡ wide ls) × (c < (get_or ls q none).count)
spot q c ls h =
    let e = ap (λ (l : Lane). l.count) (get_or_at ls q h.lane none h.at) in let s = slot_spot q c ls h in let i = h.inside in
    (omega arith, omega arith)

pub offset_bounds-lanes-lane : goal.offset_bounds-lanes-lane
offset_bounds-lanes-lane g c = let d = deep c.args.lane c.args.index c.args.lanes.now c.requires.slot in search rules

pub bounds-lanes-lane : goal.bounds-lanes-lane
bounds-lanes-lane g c = deep c.args.lane c.args.index c.args.lanes.now c.requires.slot

pub pass_to-requires-clause-to : goal.pass_to-requires-clause-to
pass_to-requires-clause-to g c = let d = deep c.args.lane c.args.index c.args.lanes.now c.requires.slot in omega arith

pub pass_to-requires-clause-here : goal.pass_to-requires-clause-here
pass_to-requires-clause-here g c = let s = (spot c.args.lane c.args.index c.args.lanes.now c.requires.slot).0 in let n = c.requires.lanes in omega arith

pub turn_times-requires : goal.turn_times-requires
turn_times-requires g c =
    let s = spot c.args.lane c.args.index c.args.lanes.now c.requires.slot in let s0 = s.0 in let s1 = s.1 in let n = c.requires.lanes in
    let a = ap (λ m. length m.1) c.pass_to.ensures.turned in let r = rotated_length (place c.args.lanes.now c.args.lane) c.args.seat.now.me.1 (omega arith) in omega arith

pub exchange-old-requires : goal.exchange-old-requires
exchange-old-requires g c =
    let s = spot c.args.lane c.args.index c.args.lanes.now c.requires.slot in let s0 = s.0 in let s1 = s.1 in let n = c.requires.lanes in
    let l = c.args.seat.now.me.1 in let p : ℕ = place c.args.lanes.now c.args.lane in let k : ℕ = c.args.index in let h = c.requires.held in let x : ℕ × g.row.S.Denot = (c.args.slot, h.0) in
    let to = ap (λ z. z.1) c.turn_times.ensures.turned ∙ ap (λ z. rotated k z.1) c.pass_to.ensures.turned in (
      c.turn_times.ensures.seat.0 ∙ (c.pass_to.ensures.seat.0 ∙ c.requires.table),
      (h.0, subst (λ y. y ≡ x ∷ rest y) (sym to) (head_is l p k x h.1 (omega arith))),
    )

pub overflow_sub-count : goal.overflow_sub-count
overflow_sub-count g c = let s = (spot c.args.lane c.args.index c.args.lanes.now c.requires.slot).1 in omega arith

pub turn_times-requires-2 : goal.turn_times-requires-2
turn_times-requires-2 g c =
    let s = spot c.args.lane c.args.index c.args.lanes.now c.requires.slot in let s0 = s.0 in let s1 = s.1 in let n = c.requires.lanes in
    let l = c.args.seat.now.me.1 in let p : ℕ = place c.args.lanes.now c.args.lane in let k : ℕ = c.args.index in let x = c.exchange-old.ensures in
    let to = ap (λ z. z.1) c.turn_times.ensures.turned ∙ ap (λ z. rotated k z.1) c.pass_to.ensures.turned in
    let a = circle_length l c.turn_times.new.seat.me.1 c.exchange-old.new.seat.me.1 p k (c.args.slot, c.exchange-old.result) (c.args.slot, c.args.new) to x.2 (ap (λ z. z.1) x.3) (omega arith) in
    omega arith

pub overflow_add-lane : goal.overflow_add-lane
overflow_add-lane g c = let d = deep c.args.lane c.args.index c.args.lanes.now c.requires.slot in search rules

pub pass_from-requires-clause-from : goal.pass_from-requires-clause-from
pass_from-requires-clause-from g c = let d = deep c.args.lane c.args.index c.args.lanes.now c.requires.slot in omega arith

pub pass_from-requires-clause-here : goal.pass_from-requires-clause-here
pass_from-requires-clause-here g c =
    let s = spot c.args.lane c.args.index c.args.lanes.now c.requires.slot in let s0 = s.0 in let s1 = s.1 in let n = c.requires.lanes in
    let l = c.args.seat.now.me.1 in let p : ℕ = place c.args.lanes.now c.args.lane in let k : ℕ = c.args.index in let x = c.exchange-old.ensures in
    let j : ℕ = (get_or c.args.lanes.now c.args.lane none).count - k in
    let to = ap (λ z. z.1) c.turn_times.ensures.turned ∙ ap (λ z. rotated k z.1) c.pass_to.ensures.turned in
    let a = circle_length l c.turn_times.new.seat.me.1 c.exchange-old.new.seat.me.1 p k (c.args.slot, c.exchange-old.result) (c.args.slot, c.args.new) to x.2 (ap (λ z. z.1) x.3) (omega arith) in
    let b = ap (λ z. length z.1) c.turn_times-2.ensures.turned in let d = rotated_length j c.exchange-old.new.seat.me.1 (omega arith) in omega arith

pub returns-clause-found : goal.returns-clause-found
returns-clause-found g c =
    let s = spot c.args.lane c.args.index c.args.lanes.now c.requires.slot in let s0 = s.0 in let s1 = s.1 in let n = c.requires.lanes in
    let l = c.args.seat.now.me.1 in let p : ℕ = place c.args.lanes.now c.args.lane in let k : ℕ = c.args.index in let h = c.requires.held in
    let x : ℕ × g.row.S.Denot = (c.args.slot, h.0) in let y : ℕ × g.row.S.Denot = (c.args.slot, c.exchange-old.result) in
    let to = ap (λ z. z.1) c.turn_times.ensures.turned ∙ ap (λ z. rotated k z.1) c.pass_to.ensures.turned in
    let same = same_head x y (rotated k (rotated p l)) (head_is l p k x h.1 (omega arith)) (subst (λ z. z ≡ y ∷ rest z) to c.exchange-old.ensures.2) in
    h.1 ∙ ap (λ z. some (c.args.slot, z)) same

pub returns-clause-slots : goal.returns-clause-slots
returns-clause-slots g c =
    let s = spot c.args.lane c.args.index c.args.lanes.now c.requires.slot in let s0 = s.0 in let s1 = s.1 in let n = c.requires.lanes in
    let m = c.args.seat.now.me in let p : ℕ = place c.args.lanes.now c.args.lane in let k : ℕ = c.args.index in let h = c.requires.held in
    let w : ℕ = wide (drop (c.args.lane + 1) c.args.lanes.now) in let t : ℕ = (get_or c.args.lanes.now c.args.lane none).count in let j : ℕ = t - k in
    let to = c.turn_times.ensures.turned ∙ ap (λ z. (z.0, rotated k z.1)) c.pass_to.ensures.turned in
    let ex = c.exchange-old.ensures.3 ∙ ap (λ z. (z.0, (c.args.slot, c.args.new) ∷ rest z.1)) to in
    c.pass_from.ensures.turned ∙ (ap (λ z. (z.0, rotated w z.1)) c.turn_times-2.ensures.turned ∙ (ap (λ z. (z.0, rotated w (rotated j z.1))) ex
    ∙ ap (λ z. (m.0, z)) (changed m.1 p k t w (c.args.slot, h.0) (c.args.slot, c.args.new) h.1 (omega arith) (omega arith))))
