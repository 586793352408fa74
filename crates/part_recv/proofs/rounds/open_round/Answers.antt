use Rattle.std.proofs.Common.{◌≡◌, suc, ◌+◌, ◌*◌, ◌<◌, ◌≤◌, length, sym, ap, ◌∙◌, subst, arith}
use Rattle.part_geometry.specs.Shape.{Shape}
use Rattle.pair_core.specs.Names.{take_words}
use Rattle.pair_core.specs.Moves.{StoreReturn, StoreTake}
use Rattle.pair_core.specs.declared.view.RecvSide.{RecvSide}
use Rattle.pair_rule.specs.Seats.{RecvHeld}
use Rattle.pair_rule.specs.Steps.{MayMake}
use Rattle.pair_rule.specs.Parts.{renewed}
use Rattle.part_recv.specs.Receiving.{returns_stored, takes_stored}
use Rattle.part_recv.proofs.Opening.{returns_geometry, may_return, opened_geometry, opened_recv, may_take, lanes_more, lanes_none, lanes_all}
use Rattle.part_recv.proofs.rounds.open_round.Goals as goal

pub store_return-requires-clause-pair : goal.store_return-requires-clause-pair
store_return-requires-clause-pair g c =
    let h = c.returns.invariant in
    (ap (λ (z : RecvHeld). z.table) h ∙ c.requires.pair.0, ap (λ (z : RecvHeld). z.view.geometry) h ∙ (returns_geometry c.args.round c.returns.word c.args.seat.now.view ∙ c.requires.pair.1))

pub store_return-requires-clause-allowed : goal.store_return-requires-clause-allowed
store_return-requires-clause-allowed g c =
    let parts = ap (λ (z : Shape). z.recv_parts) (c.geometry.ensures.value ∙ sym c.requires.pair.1) in
    let low : c.returns.word < take_words c.args.seat.now.view.geometry = let a = c.recv_parts.ensures.value in let b = c.div_ceil-words.ensures in let d = c.returns-test.true in omega arith in
    subst (λ (z : RecvHeld). MayMake z.view (StoreReturn c.args.round c.returns.word)) (sym c.returns.invariant)
    (may_return c.args.round c.returns.word c.args.seat.now.view c.lanes-lanes.ensures.number c.requires.idle c.requires.round.0 c.requires.round.1 low)

pub takes-init : goal.takes-init
takes-init g c =
    let s : RecvHeld = c.args.seat.now in
    let parts = ap (λ (z : Shape). z.recv_parts) (c.geometry.ensures.value ∙ sym c.requires.pair.1) in
    let all : c.returns.word ≡ take_words s.view.geometry =
    (let a = c.recv_parts.ensures.value in let b = c.div_ceil-words.ensures in let d = c.returns-test.false in let e = c.returns.auto.word-end in omega arith) in
    c.returns.invariant ∙ (λ i. record s { view = returns_stored c.args.round (all i) s.view; lanes = sym (lanes_none s.lanes) i })

pub store_take-requires-clause-pair : goal.store_take-requires-clause-pair
store_take-requires-clause-pair g c =
    let h = c.takes.invariant in (
      ap (λ (z : RecvHeld). z.table) h ∙ c.requires.pair.0,
      ap (λ (z : RecvHeld). z.view.geometry) h ∙ (opened_geometry c.args.round c.takes.word (take_words c.args.seat.now.view.geometry) c.args.seat.now.view ∙ c.requires.pair.1),
    )

pub store_take-requires-clause-allowed : goal.store_take-requires-clause-allowed
store_take-requires-clause-allowed g c =
    let parts = ap (λ (z : Shape). z.recv_parts) (c.geometry.ensures.value ∙ sym c.requires.pair.1) in
    let low : c.takes.word < take_words c.args.seat.now.view.geometry = let a = c.recv_parts.ensures.value in let b = c.div_ceil-words.ensures in let d = c.takes-test.true in omega arith in
    subst (λ (z : RecvHeld). MayMake z.view (StoreTake c.args.round c.takes.word)) (sym c.takes.invariant) (may_take c.args.round c.takes.word c.args.seat.now.view c.lanes-lanes.ensures.number low)

pub takes-preserved : goal.takes-preserved
takes-preserved g c =
    let s : RecvHeld = c.args.seat.now in let n = c.takes.word in
    let more : suc n ≡ n + 1 = omega arith in
    c.store_take.ensures.step ∙ (ap (renewed n) c.takes.invariant
    ∙ (λ i. record s { view = takes_stored (more i) (returns_stored c.args.round (take_words s.view.geometry) s.view); lanes = lanes_more n s.lanes i }))

pub returns-clause-seat : goal.returns-clause-seat
returns-clause-seat g c =
    let s : RecvHeld = c.args.seat.now in
    let parts = ap (λ (z : Shape). z.recv_parts) (c.geometry.ensures.value ∙ sym c.requires.pair.1) in
    let all : c.takes.word ≡ take_words s.view.geometry =
    (let a = c.recv_parts.ensures.value in let b = c.div_ceil-words.ensures in let d = c.takes-test.false in let e = c.takes.auto.word-end in omega arith) in
    let enough : length s.lanes ≤ 32 * c.takes.word = let a = c.lanes-lanes.ensures.kept.parts in omega arith in
    c.takes.invariant
    ∙ (λ i. record s { view = takes_stored (all i) (returns_stored (c.requires.round.0 i) (take_words s.view.geometry) s.view); lanes = lanes_all (32 * c.takes.word) s.lanes enough i })

pub returns-clause-home : goal.returns-clause-home
returns-clause-home g c =
    λ q l at. (c.lanes-lanes.ensures.kept.each q l at).home (λ active. let a = active.1 in let b = c.requires.idle in absurd (omega arith))

pub returns-clause-geometry : goal.returns-clause-geometry
returns-clause-geometry g c =
    ap (λ (z : RecvHeld). z.view.geometry) c.takes.invariant ∙ opened_geometry c.args.round c.takes.word (take_words c.args.seat.now.view.geometry) c.args.seat.now.view

pub returns-clause-side : goal.returns-clause-side
returns-clause-side g c =
    let s : RecvHeld = c.args.seat.now in
    let parts = ap (λ (z : Shape). z.recv_parts) (c.geometry.ensures.value ∙ sym c.requires.pair.1) in
    let all : c.takes.word ≡ take_words s.view.geometry =
    (let a = c.recv_parts.ensures.value in let b = c.div_ceil-words.ensures in let d = c.takes-test.false in let e = c.takes.auto.word-end in omega arith) in
    let some : 1 ≤ take_words s.view.geometry = let a = c.geometry.ensures.limits.recv_parts.0 in let b = ap (λ (z : Shape). z.recv_parts) c.requires.pair.1 in omega arith in
    let recv = ap (λ (z : RecvHeld). z.view.recv) c.takes.invariant ∙ opened_recv c.args.round c.takes.word s.view some in
    let same = ap (λ (z : RecvHeld). z.view.geometry) c.takes.invariant ∙ opened_geometry c.args.round c.takes.word (take_words s.view.geometry) s.view in
    (ap (λ (z : RecvSide). z.takes) recv ∙ (all ∙ sym (ap take_words same)), ap (λ (z : RecvSide). z.released) recv)

pub returns-clause-round : goal.returns-clause-round
returns-clause-round g c =
    let s : RecvHeld = c.args.seat.now in
    let some : 1 ≤ take_words s.view.geometry = let a = c.geometry.ensures.limits.recv_parts.0 in let b = ap (λ (z : Shape). z.recv_parts) c.requires.pair.1 in omega arith in
    ap (λ (z : RecvHeld). z.view.recv.round) c.takes.invariant ∙ ap (λ (z : RecvSide). z.round) (opened_recv c.args.round c.takes.word s.view some)

pub returns-clause-watchers : goal.returns-clause-watchers
returns-clause-watchers g c =
    let s : RecvHeld = c.args.seat.now in
    let some : 1 ≤ take_words s.view.geometry = let a = c.geometry.ensures.limits.recv_parts.0 in let b = ap (λ (z : Shape). z.recv_parts) c.requires.pair.1 in omega arith in
    ap (λ (z : RecvHeld). z.view.recv.watchers) c.takes.invariant ∙ ap (λ (z : RecvSide). z.watchers) (opened_recv c.args.round c.takes.word s.view some)
