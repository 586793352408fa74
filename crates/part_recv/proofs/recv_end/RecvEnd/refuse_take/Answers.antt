use Rattle.std.proofs.Common.{◌≡◌, ◌<◌, true, false, List, length, refl, sym, ap, ◌∙◌, subst, arith}
use Rattle.part_geometry.specs.Shape.{Shape}
use Rattle.pair_core.specs.Moves.{IsRecvActive}
use Rattle.pair_rule.specs.Seats.{RecvHeld}
use Rattle.slot_rows.specs.Lanes.{HasFlags}
use Rattle.slot_rows.specs.declared.lane.Lane.{Lane}
use lib.ListN.{get_elem?}
use Rattle.part_recv.specs.Receiving.{End, is_active}
use Rattle.part_recv.proofs.Ending.{side_flag, side_active, free_flags}
use Rattle.part_recv.proofs.recv_end.RecvEnd.refuse_take.Goals as goal

pub returns-then-is_taken-clause-answer : goal.returns-then-is_taken-clause-answer
returns-then-is_taken-clause-answer g c =
    let s : RecvHeld = c.self.inside.seat in
    let on : is_active c.args.self.now.view ≡ true = ap (λ (z : End). is_active z.view) (sym c.self.view_is) ∙ (side_flag c.self.inside.active s.view c.self.invariant.side ∙ c.if-not-self.false) in
    let same = ap (λ (z : Shape). z.recv_parts) (c.geometry.ensures.value ∙ sym c.requires.pair.1) in
    let part : c.args.q < c.args.self.now.view.geometry.recv_parts = let a = c.recv_parts.ensures.value in let b = c.if-q-recv_parts.false in omega arith in
    let l = c.is_taken.ensures in (
      (on, part),
      (l.0, ap (λ (z : List Lane). get_elem? z c.args.q) (sym (c.lanes.ensures.value ∙ ap (λ (z : End). z.lanes) c.self.view_is)) ∙ l.1, l.2 ∙ c.if-is_taken.true),
      c.round-round.ensures ∙ ap (λ (z : End). z.view.recv.round) c.self.view_is,
      refl,
    )

pub returns-in_default-clause-answer : goal.returns-in_default-clause-answer
returns-in_default-clause-answer g c =
    let s : RecvHeld = c.self.inside.seat in
    let on : is_active c.args.self.now.view ≡ true = ap (λ (z : End). is_active z.view) (sym c.self.view_is) ∙ (side_flag c.self.inside.active s.view c.self.invariant.side ∙ c.if-not-self.false) in
    let same = ap (λ (z : Shape). z.recv_parts) (c.geometry.ensures.value ∙ sym c.requires.pair.1) in
    let part : c.args.q < c.args.self.now.view.geometry.recv_parts = let a = c.recv_parts.ensures.value in let b = c.if-q-recv_parts.false in omega arith in
    let active : IsRecvActive s.view.geometry s.view.recv = side_active c.self.inside.active s.view c.self.invariant.side (side_flag c.self.inside.active s.view c.self.invariant.side ∙ c.if-not-self.false) in
    let l = c.is_taken.ensures in
    let free = free_flags s.view (length s.slots) c.args.q s.lanes l.0 c.lanes.ensures.kept active (ap (λ (z : List Lane). get_elem? z c.args.q) (sym c.lanes.ensures.value) ∙ l.1) (l.2 ∙ c.if-is_taken.false) in
    ((on, part), subst (λ (z : End). HasFlags false false c.args.q z.lanes) c.self.view_is free, c.in_default.ensures.found)

pub returns-clause-answer : goal.returns-clause-answer
returns-clause-answer g c =
    let s : RecvHeld = c.self.inside.seat in
    let on : is_active c.args.self.now.view ≡ true = ap (λ (z : End). is_active z.view) (sym c.self.view_is) ∙ (side_flag c.self.inside.active s.view c.self.invariant.side ∙ c.if-not-self.false) in
    let same = ap (λ (z : Shape). z.recv_parts) (c.geometry.ensures.value ∙ sym c.requires.pair.1) in
    let part : c.args.q < c.args.self.now.view.geometry.recv_parts = let a = c.recv_parts.ensures.value in let b = c.if-q-recv_parts.false in omega arith in
    let active : IsRecvActive s.view.geometry s.view.recv = side_active c.self.inside.active s.view c.self.invariant.side (side_flag c.self.inside.active s.view c.self.invariant.side ∙ c.if-not-self.false) in
    let l = c.is_taken.ensures in
    let free = free_flags s.view (length s.slots) c.args.q s.lanes l.0 c.lanes.ensures.kept active (ap (λ (z : List Lane). get_elem? z c.args.q) (sym c.lanes.ensures.value) ∙ l.1) (l.2 ∙ c.if-is_taken.false) in
    ((on, part), subst (λ (z : End). HasFlags false false c.args.q z.lanes) c.self.view_is free, c.in-Some.ensures.found)
