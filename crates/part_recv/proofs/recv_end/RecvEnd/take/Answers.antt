use Rattle.std.proofs.Common.{◌≡◌, ℕ, ◌%◌, ◌<◌, ◌==◌, true, false, [], List, length, sym, ap, ◌∙◌, subst, arith}
use Rattle.part_geometry.specs.Shape.{Shape, IsShape}
use Rattle.pair_core.specs.Moves.{TakePart, IsRecvActive}
use Rattle.pair_core.specs.declared.view.RecvSide.{RecvSide}
use Rattle.slot_rows.specs.Lanes.{HasFlags}
use Rattle.slot_rows.specs.declared.lane.Lane.{Lane}
use Rattle.pair_rule.specs.Seats.{RecvHeld}
use Rattle.pair_rule.specs.Steps.{MayMake}
use Rattle.part_recv.specs.Receiving.{End, is_active, end_of}
use Rattle.part_recv.specs.Taking.{IsArrival, LookedAll, bytes_in}
use Rattle.part_recv.proofs.Ending.{side_active, free_bit, end_takes}
use Rattle.part_recv.proofs.Arriving.{same_geometry, same_recv, same_lanes, same_round, are_seen, arrived, arrival_is, taken_says, taken_out}
use Rattle.part_recv.proofs.recv_end.RecvEnd.take.Goals as goal

pub take_part-shelf-requires-clause-pair : goal.take_part-shelf-requires-clause-pair
take_part-shelf-requires-clause-pair g c =
    let s : RecvHeld = c.self.inside.seat in let o : End = c.args.self.now in let q = c.args.q in
    let looks : LookedAll q o (end_of s) = subst (λ (z : End). LookedAll q o z) (sym c.self.view_is) c.in_ok-refuse_take.ensures.answer.2 in
    (ap (λ (z : End). z.table) looks.end ∙ c.requires.pair.0, same_geometry q s o looks ∙ c.requires.pair.1)

pub take_part-shelf-requires-clause-allowed : goal.take_part-shelf-requires-clause-allowed
take_part-shelf-requires-clause-allowed g c =
    let s : RecvHeld = c.self.inside.seat in let o : End = c.args.self.now in let q = c.args.q in
    let looks : LookedAll q o (end_of s) = subst (λ (z : End). LookedAll q o z) (sym c.self.view_is) c.in_ok-refuse_take.ensures.answer.2 in
    let kept = c.lanes-lanes.ensures.kept in
    let look = c.in_ok-refuse_take.ensures.answer.0 in
    let v : IsShape o.view.geometry = subst IsShape (sym c.requires.pair.1) c.geometry-geometry.ensures.limits in
    let on : is_active s.view ≡ true = ap (λ (z : RecvSide). z.released == 0) (same_recv q s o looks) ∙ look.0 in
    let active : IsRecvActive s.view.geometry s.view.recv = side_active c.self.inside.active s.view c.self.invariant.side on in
    let free : HasFlags false false q s.lanes = subst (λ (z : List Lane). HasFlags false false q z) (sym (same_lanes q s o looks)) c.in_ok-refuse_take.ensures.answer.1 in
    let place : o.view.recv.round % o.view.geometry.depth < o.view.geometry.depth = let d = v.depth.0 in omega arith in
    let may : MayMake s.view (TakePart q []) = (
      c.lanes-lanes.ensures.number,
      subst (λ (z : Shape). q < z.recv_parts) (sym (same_geometry q s o looks)) look.1,
      active,
      free_bit s.view (length s.slots) q false s.lanes kept free,
      are_seen q s o looks v look.1 place kept.words,
    ) in
    may

pub of-requires : goal.of-requires
of-requires g c =
    let s : RecvHeld = c.self.inside.seat in let o : End = c.args.self.now in let q = c.args.q in
    let looks : LookedAll q o (end_of s) = subst (λ (z : End). LookedAll q o z) (sym c.self.view_is) c.in_ok-refuse_take.ensures.answer.2 in
    let shape : o.view.geometry ≡ c.geometry-geometry.result = c.requires.pair.1 ∙ sym c.geometry-geometry.ensures.value in
    let round : o.view.recv.round ≡ c.round-round.result = sym (same_round q s o looks) ∙ sym c.round-round.ensures in
    subst (λ (z : Shape × ℕ). IsArrival z.0 z.1 q c.take_part-shelf.result) (λ i. (shape i, round i))
    (arrival_is q s o looks _ c.take_part-shelf.result c.take_part-shelf.new.seat c.take_part-shelf.ensures c.in_ok-refuse_take.ensures.answer.0.1)

pub invariant_of-self : goal.invariant_of-self
invariant_of-self g c =
    let s : RecvHeld = c.self.inside.seat in let o : End = c.args.self.now in let q = c.args.q in
    let looks : LookedAll q o (end_of s) = subst (λ (z : End). LookedAll q o z) (sym c.self.view_is) c.in_ok-refuse_take.ensures.answer.2 in
    let free : HasFlags false false q s.lanes = subst (λ (z : List Lane). HasFlags false false q z) (sym (same_lanes q s o looks)) c.in_ok-refuse_take.ensures.answer.1 in
    end_takes (g.C.Content.may c.args.pair.now.key.tag) c.self.inside.active c.self.inside.watchers q c.take_part-shelf.result s c.take_part-shelf.new.seat c.lanes-lanes.ensures.kept free c.take_part-shelf.ensures c.self.invariant

pub returns-clause-answer : goal.returns-clause-answer
returns-clause-answer g c =
    let s : RecvHeld = c.self.inside.seat in let o : End = c.args.self.now in let q = c.args.q in
    let looks : LookedAll q o (end_of s) = subst (λ (z : End). LookedAll q o z) (sym c.self.view_is) c.in_ok-refuse_take.ensures.answer.2 in
    let shape : c.geometry-geometry.result ≡ o.view.geometry = c.geometry-geometry.ensures.value ∙ sym c.requires.pair.1 in
    let round : c.round-round.result ≡ o.view.recv.round = c.round-round.ensures ∙ same_round q s o looks in
    let is : c.of.result ≡ arrived q s o looks c.take_part-shelf.result = c.of.ensures ∙ (λ i. record { geometry = shape i; round = round i; partition = q; bytes = bytes_in c.take_part-shelf.result.bufs }) in
    taken_says q s o looks (g.C.Content.may c.args.pair.now.key.tag) c.take_part-shelf.result c.take_part-shelf.new.seat c.take_part-shelf.ensures c.in_ok-refuse_take.ensures.answer.0 c.in_ok-refuse_take.ensures.answer.1 c.of.result is

pub returns-clause-out : goal.returns-clause-out
returns-clause-out g c =
    let s : RecvHeld = c.self.inside.seat in let o : End = c.args.self.now in let q = c.args.q in
    let looks : LookedAll q o (end_of s) = subst (λ (z : End). LookedAll q o z) (sym c.self.view_is) c.in_ok-refuse_take.ensures.answer.2 in
    let shape : c.geometry-geometry.result ≡ o.view.geometry = c.geometry-geometry.ensures.value ∙ sym c.requires.pair.1 in
    let round : c.round-round.result ≡ o.view.recv.round = c.round-round.ensures ∙ same_round q s o looks in
    let is : c.of.result ≡ arrived q s o looks c.take_part-shelf.result = c.of.ensures ∙ (λ i. record { geometry = shape i; round = round i; partition = q; bytes = bytes_in c.take_part-shelf.result.bufs }) in
    let inside : q < length s.lanes =
    (let parts = c.lanes-lanes.ensures.kept.parts in let part = c.in_ok-refuse_take.ensures.answer.0.1 in let same = ap (λ (z : Shape). z.recv_parts) (same_geometry q s o looks) in omega arith) in
    taken_out q s o looks (g.C.Content.may c.args.pair.now.key.tag) c.take_part-shelf.result c.take_part-shelf.new.seat c.take_part-shelf.ensures inside c.of.result is
