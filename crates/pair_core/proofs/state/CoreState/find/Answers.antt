use Rattle.std.proofs.Common.{◌≡◌, ◌<◌, length, get_or, List, subst, ap, arith, ◌∙◌, sym, Some, inl, inr}
use Rattle.pair_core.specs.declared.seat.Seat.{Seat}
use Rattle.pair_core.proofs.StateSeats.{read_seat}
use Rattle.std.proofs.lemmas.Option.{slice_get_within}
use Rattle.std.specs.Prelude.{slice_get}
use Rattle.std.proofs.lemmas.Bool.{cases_order}
use Rattle.pair_core.proofs.state.CoreState.find.Goals as goal

pub loop-at-preserved : goal.loop-at-preserved
loop-at-preserved c =
    let e = c.deref-known-items.ensures.value in
    let low : c.loop-at.at < length c.args.self.now.seats.items = subst (λ (l : List Seat). c.loop-at.at < length l) e c.loop-at-test.true in
    let is : c.known-item.result ≡ get_or c.args.self.now.seats.items c.loop-at.at c.known-item.result
    = subst (λ (l : List Seat). c.known-item.result ≡ get_or l c.loop-at.at c.known-item.result) e c.known-item.is in
    let there : slice_get c.args.self.now.seats.items c.loop-at.at ≡ Some c.known-item.result = read_seat _ _ _ low is in
    λ k v less found own. elim (cases_order k c.loop-at.at) [
      | inl same ↦
          let both : Some v ≡ Some c.known-item.result = sym found ∙ (ap (slice_get c.args.self.now.seats.items) same ∙ there) in
          let one : v ≡ c.known-item.result = cc in c.if-known-seat.false (sym (ap (λ (w : Seat). w.seat) one) ∙ own)
      | inr other ↦ elim other [ inl before ↦ c.loop-at.invariant k v before found own | inr after ↦ absurd (omega arith) ]
    ]

pub returns-then-known-seat-clause-inside : goal.returns-then-known-seat-clause-inside
returns-then-known-seat-clause-inside c = subst (λ (l : List Seat). c.loop-at.at < length l) c.deref-known-items.ensures.value c.loop-at-test.true

pub returns-clause-none : goal.returns-clause-none
returns-clause-none c = λ at v is.
    let low = slice_get_within c.args.self.now.seats.items at v is in
    c.loop-at.invariant at v (omega (arith, c.loop-at-test.false, ap length c.deref-known-items.ensures.value)) is

pub returns-then-known-seat-clause-some : goal.returns-then-known-seat-clause-some
returns-then-known-seat-clause-some c =
    let e = c.deref-known-items.ensures.value in
    let low : c.loop-at.at < length c.args.self.now.seats.items = subst (λ (l : List Seat). c.loop-at.at < length l) e c.loop-at-test.true in
    let is : c.known-item.result ≡ get_or c.args.self.now.seats.items c.loop-at.at c.known-item.result
    = subst (λ (l : List Seat). c.known-item.result ≡ get_or l c.loop-at.at c.known-item.result) e c.known-item.is in
    (c.known-item.result, read_seat _ _ _ low is, c.if-known-seat.true)
