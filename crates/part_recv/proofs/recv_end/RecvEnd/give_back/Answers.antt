use Rattle.std.proofs.Common.{ℕ, ◌<◌, ◌≤◌, true, List, length, sym, ap, ◌∙◌, subst}
use Rattle.part_geometry.specs.Shape.{Shape}
use Rattle.pair_core.specs.Moves.{ReturnPart, IsRecvActive}
use Rattle.slot_rows.specs.declared.lane.Lane.{Lane}
use Rattle.slot_rows.specs.Lanes.{HasFlags}
use Rattle.slot_rows.proofs.Lists.{at_split}
use Rattle.pair_rule.specs.Seats.{RecvHeld, cells_of}
use Rattle.pair_rule.specs.Steps.{MayMake}
use Rattle.part_recv.specs.Receiving.{End, IsEnd}
use Rattle.part_recv.proofs.Ending.{side_flag, side_active, out_active, end_returns, taken_bit, out_bit}
use Rattle.part_recv.proofs.recv_end.RecvEnd.give_back.Goals as goal

pub return_part-requires-clause-allowed : goal.return_part-requires-clause-allowed
return_part-requires-clause-allowed g c =
    let s : RecvHeld = c.self.inside.seat in let q = c.partition-q.result in
    let kept = c.lanes-lanes.ensures.kept in
    let h : HasFlags true true q s.lanes = subst (λ (z : ℕ × List Lane). HasFlags true true z.0 z.1) (λ i. (sym c.partition-q.ensures i, (sym c.self.view_is i).lanes)) c.requires.out.out in
    let on = out_active c.self.inside.active s.view (length s.slots) q true s.lanes c.self.invariant.side kept h in
    let active : IsRecvActive s.view.geometry s.view.recv = side_active c.self.inside.active s.view c.self.invariant.side (side_flag c.self.inside.active s.view c.self.invariant.side ∙ on) in
    let part : q < s.view.geometry.recv_parts = subst (λ (z : ℕ). q < z) kept.parts (at_split s.lanes q h.lane h.at).0 in
    let may : MayMake s.view (ReturnPart q) =
    (c.lanes-lanes.ensures.number, part, active, taken_bit s.view (length s.slots) q true s.lanes kept h, out_bit s.view (length s.slots) q s.lanes kept active h) in
    may

pub return_part-requires-clause-out : goal.return_part-requires-clause-out
return_part-requires-clause-out g c =
    let s : RecvHeld = c.self.inside.seat in let q = c.partition-q.result in
    let h : HasFlags true true q s.lanes = subst (λ (z : ℕ × List Lane). HasFlags true true z.0 z.1) (λ i. (sym c.partition-q.ensures i, (sym c.self.view_is i).lanes)) c.requires.out.out in
    c.self.invariant.slots q h.lane h.at h.out

pub invariant_of-self : goal.invariant_of-self
invariant_of-self g c =
    let s : RecvHeld = c.self.inside.seat in let q = c.partition-q.result in
    let h : HasFlags true true q s.lanes = subst (λ (z : ℕ × List Lane). HasFlags true true z.0 z.1) (λ i. (sym c.partition-q.ensures i, (sym c.self.view_is i).lanes)) c.requires.out.out in
    let room : cells_of s.view.geometry q ≤ c.into_shelf.result.room =
    subst (λ (z : Shape × ℕ). cells_of z.0 z.1 ≤ c.into_shelf.result.room) (λ i. ((c.requires.out.geometry ∙ ap (λ (z : End). z.view.geometry) (sym c.self.view_is)) i, sym c.partition-q.ensures i)) c.into_shelf.ensures.room in
    subst (λ (z : RecvHeld). IsEnd c.self.inside.active c.self.inside.watchers z) (sym c.return_part.ensures)
    (end_returns c.self.inside.active c.self.inside.watchers q s c.lanes-lanes.ensures.kept h c.self.invariant c.into_shelf.result c.lanes-lanes.ensures.shelves room)
