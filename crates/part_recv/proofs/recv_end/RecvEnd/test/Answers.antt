use Rattle.std.proofs.Common.{◌≡◌, ℕ, ◌<◌, true, false, not, None, Some, List, length, sym, ap, ◌∙◌, subst}
use Rattle.std.specs.List.{position}
use Rattle.pair_core.specs.Moves.{StoreRelease, IsRecvActive}
use Rattle.slot_rows.specs.Lanes.{HasFlags}
use Rattle.slot_rows.specs.declared.lane.Lane.{Lane}
use Rattle.pair_rule.specs.Seats.{RecvHeld}
use Rattle.pair_rule.specs.Steps.{MayMake}
use Rattle.part_geometry.specs.declared.answers.RecvTest.{RecvTest}
use Rattle.part_recv.specs.Receiving.{is_active, end_of, after_answer, after_test, test_answer}
use Rattle.part_recv.proofs.Lending.{lane_at}
use Rattle.part_recv.proofs.Ending.{side_flag, side_active, taken_bit, back_bit}
use Rattle.part_recv.proofs.Testing.{none_passes, all_taken, test_out, test_done}
use Rattle.part_recv.proofs.recv_end.RecvEnd.test.Goals as goal

pub returns-in-Some-first_out-clause-answer : goal.returns-in-Some-first_out-clause-answer
returns-in-Some-first_out-clause-answer g c =
    let s : RecvHeld = c.self.inside.seat in
    let on : is_active s.view ≡ true = side_flag c.self.inside.active s.view c.self.invariant.side ∙ c.if-not-self.false in
    let none : position (λ (l : Lane). not l.taken) s.lanes ≡ None = ap (λ (z : List Lane). position (λ (l : Lane). not l.taken) z) (sym c.lanes-lanes.ensures.value) ∙ (sym c.first_untaken.ensures ∙ c.in_default.is) in
    let some : position (λ (l : Lane). l.out) s.lanes ≡ Some c.in-Some-first_out.q = ap (λ (z : List Lane). position (λ (l : Lane). l.out) z) (sym c.lanes-lanes.ensures.value) ∙ (sym c.first_out.ensures ∙ c.in-Some-first_out.is) in
    sym (ap test_answer (sym c.self.view_is) ∙ test_out (end_of s) on none c.in-Some-first_out.q some)

pub store_release-requires-clause-allowed : goal.store_release-requires-clause-allowed
store_release-requires-clause-allowed g c =
    let s : RecvHeld = c.self.inside.seat in let kept = c.lanes-lanes.ensures.kept in
    let on : is_active s.view ≡ true = side_flag c.self.inside.active s.view c.self.invariant.side ∙ c.if-not-self.false in
    let active : IsRecvActive s.view.geometry s.view.recv = side_active c.self.inside.active s.view c.self.invariant.side on in
    let none : position (λ (l : Lane). not l.taken) s.lanes ≡ None = ap (λ (z : List Lane). position (λ (l : Lane). not l.taken) z) (sym c.lanes-lanes.ensures.value) ∙ (sym c.first_untaken.ensures ∙ c.in_default.is) in
    let back : position (λ (l : Lane). l.out) s.lanes ≡ None = ap (λ (z : List Lane). position (λ (l : Lane). l.out) z) (sym c.lanes-lanes.ensures.value) ∙ (sym c.first_out.ensures ∙ c.in_default-first_out.is) in
    let may : MayMake s.view (StoreRelease c.round-round.result) = (
      c.lanes-lanes.ensures.number,
      c.round-round.ensures,
      active,
      λ q inside.
          let l = lane_at s.lanes q (subst (λ (z : ℕ). q < z) (sym kept.parts) inside) in
          let h : HasFlags true false q s.lanes = record { lane = l.0; at = l.1; taken = all_taken s.lanes none q l.0 l.1; out = none_passes (λ (z : Lane). z.out) s.lanes back q l.0 l.1 } in
          (taken_bit s.view (length s.slots) q false s.lanes kept h, back_bit s.view (length s.slots) q s.lanes kept active h),
    ) in
    may

pub returns-clause-answer : goal.returns-clause-answer
returns-clause-answer g c =
    let s : RecvHeld = c.self.inside.seat in
    let on : is_active s.view ≡ true = side_flag c.self.inside.active s.view c.self.invariant.side ∙ c.if-not-self.false in
    let none : position (λ (l : Lane). not l.taken) s.lanes ≡ None = ap (λ (z : List Lane). position (λ (l : Lane). not l.taken) z) (sym c.lanes-lanes.ensures.value) ∙ (sym c.first_untaken.ensures ∙ c.in_default.is) in
    let back : position (λ (l : Lane). l.out) s.lanes ≡ None = ap (λ (z : List Lane). position (λ (l : Lane). l.out) z) (sym c.lanes-lanes.ensures.value) ∙ (sym c.first_out.ensures ∙ c.in_default-first_out.is) in
    sym (ap test_answer (sym c.self.view_is) ∙ test_done (end_of s) on none back)

pub returns-clause-end : goal.returns-clause-end
returns-clause-end g c =
    let s : RecvHeld = c.self.inside.seat in
    let on : is_active s.view ≡ true = side_flag c.self.inside.active s.view c.self.invariant.side ∙ c.if-not-self.false in
    let none : position (λ (l : Lane). not l.taken) s.lanes ≡ None = ap (λ (z : List Lane). position (λ (l : Lane). not l.taken) z) (sym c.lanes-lanes.ensures.value) ∙ (sym c.first_untaken.ensures ∙ c.in_default.is) in
    let back : position (λ (l : Lane). l.out) s.lanes ≡ None = ap (λ (z : List Lane). position (λ (l : Lane). l.out) z) (sym c.lanes-lanes.ensures.value) ∙ (sym c.first_out.ensures ∙ c.in_default-first_out.is) in
    ap end_of c.store_release.ensures.step ∙ (ap (λ (z : RecvTest). after_answer z (end_of s)) (sym (test_done (end_of s) on none back)) ∙ ap after_test c.self.view_is)
