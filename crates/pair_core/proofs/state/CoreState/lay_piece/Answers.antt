use Rattle.std.proofs.Common.{◌≡◌, ◌∙◌, ◌<◌, ◌↔◌, ℕ, Some, None, Option, true, false, true≢false, refl, sym, subst, ap}
use Rattle.std.specs.Prelude.{IsTrue}
use Rattle.part_geometry.specs.Shape.{Shape, IsShape}
use Rattle.part_geometry.specs.Pieces.{pieces}
use Rattle.pair_core.specs.Moves.{LayPiece, IsAllowed, MayLay, lays}
use Rattle.pair_core.specs.Reading.{IsFull}
use Rattle.pair_core.specs.Shows.{Shows}
use Rattle.pair_core.specs.declared.view.Pending.{Pending}
use Rattle.pair_core.proofs.StateSeats.{at_seat}
use Rattle.pair_core.proofs.StateReads.{reads_8}
use Rattle.pair_core.proofs.StateBecomes.{becomes_quiet, becomes_done}
use Rattle.pair_core.proofs.StateLay.{some_one, lay_out, lay_still, lay_takes}
use Rattle.pair_core.proofs.state.CoreState.lay_piece.Goals as goal

pub returns-in_default-clause-becomes : goal.returns-in_default-clause-becomes
returns-in_default-clause-becomes c = λ core shows.
    let g = c.args.self.now.tables in let e = c.args.event.now in (
      reads_8 g core e (λ m. ¬ IsAllowed g core m) c.requires (λ n p i reads allowed.
          let none = (shows.others_are e.seat c.in_default.ensures.none).new.pending in
          let some : core.pending e.seat ≡ Some reads.0 = ap core.pending reads.2.by ∙ reads.1 in absurd (cc)),
      shows,
    )

pub returns-in_default-lay_of-clause-becomes : goal.returns-in_default-lay_of-clause-becomes
returns-in_default-lay_of-clause-becomes c = λ core shows.
    let g = c.args.self.now.tables in let e = c.args.event.now in let at = c.in-Some.ensures.some in (
      reads_8 g core e (λ m. ¬ IsAllowed g core m) c.requires (λ n p i reads allowed.
          let own = at.2 ∙ reads.2.by in
          let pend = (shows.seats_are c.in-Some.at at.0 at.1).pending ∙ (ap core.pending own ∙ reads.1) in
          let same = some_one (core.pending n) allowed.0 reads.0 allowed.1 reads.1 in
          c.in_default-lay_of.ensures.none at.0 reads.0 i at.1 pend reads.2.on
          (subst (λ (z : Pending). MayLay g z e.partition i) same (subst (λ (z : ℕ). MayLay g allowed.0 z i) (sym reads.3) allowed.2))),
      shows,
    )

pub lay_into-requires-clause-piece : goal.lay_into-requires-clause-piece
lay_into-requires-clause-piece c = c.in-Some-lay_of.ensures.some.4.may.piece

pub lay_into-requires-clause-touches : goal.lay_into-requires-clause-touches
lay_into-requires-clause-touches c = c.in-Some-lay_of.ensures.some.4.may.touches

pub is_full-requires : goal.is_full-requires
is_full-requires c = subst (λ (z : Shape). c.in-Some-lay_of.lay.piece < pieces z) (sym c.lay_into.ensures.tables) c.in-Some-lay_of.ensures.some.4.may.piece

pub returns-then-not-is_full-clause-becomes : goal.returns-then-not-is_full-clause-becomes
returns-then-not-is_full-clause-becomes c = λ core shows.
    let g = c.args.self.now.tables in let e = c.args.event.now in let l = c.in-Some-lay_of.lay in let n = e.seat in let at = c.in-Some.ensures.some in
    let h = c.in-Some-lay_of.ensures.some in let x = h.1 in let lay = h.4 in
    let own = at_seat c.args.self.now.seats.items c.in-Some.at n h.0 h.2 at in
    let pend : core.pending n ≡ Some x = sym (ap core.pending own) ∙ (sym (shows.seats_are c.in-Some.at h.0 h.2).pending ∙ h.3) in
    let v = subst IsShape c.geometry-geometry.ensures.value c.geometry-geometry.ensures.limits in
    let full = subst (λ (z : Shape). IsTrue false ↔ IsFull z c.in_ok-word.word l.round l.piece) c.lay_into.ensures.tables c.if-not-is_full.ensures in
    becomes_quiet g e (Shows c.lay_into.new.self) core c.quietly.result (LayPiece n e.partition l.piece) c.quietly.ensures
    (x, pend, record { by = refl; kind_is = c.requires; on = lay.on }, refl) (x, pend, lay.may)
    (subst (λ (o : Option Pending). Shows c.lay_into.new.self (lays g n l.piece o core)) (sym pend) (c.in_ok-word.ensures.shows core n e.word x shows at pend lay))
    (lay_still g v core l.piece l.round e.partition c.in_ok-word.word x (core.pending n) pend lay.may.piece lay.round lay.may.partition (c.in_ok-word.ensures.word core shows)
    (λ yes. true≢false (sym (full.1 yes))))
    (lay_takes g core l.piece (core.pending n))

pub returns-clause-becomes : goal.returns-clause-becomes
returns-clause-becomes c = λ core shows.
    let g = c.args.self.now.tables in let e = c.args.event.now in let l = c.in-Some-lay_of.lay in let n = e.seat in let at = c.in-Some.ensures.some in
    let h = c.in-Some-lay_of.ensures.some in let x = h.1 in let lay = h.4 in
    let own = at_seat c.args.self.now.seats.items c.in-Some.at n h.0 h.2 at in
    let pend : core.pending n ≡ Some x = sym (ap core.pending own) ∙ (sym (shows.seats_are c.in-Some.at h.0 h.2).pending ∙ h.3) in
    let v = subst IsShape c.geometry-geometry.ensures.value c.geometry-geometry.ensures.limits in
    let full = subst (λ (z : Shape). IsTrue true ↔ IsFull z c.in_ok-word.word l.round l.piece) c.lay_into.ensures.tables c.if-not-is_full.ensures in
    becomes_done g e (Shows c.lay_into.new.self) core c.sending.result (LayPiece n e.partition l.piece) (Some (l.round, l.piece)) None c.sending.ensures
    (x, pend, record { by = refl; kind_is = c.requires; on = lay.on }, refl) (x, pend, lay.may)
    (subst (λ (o : Option Pending). Shows c.lay_into.new.self (lays g n l.piece o core)) (sym pend) (c.in_ok-word.ensures.shows core n e.word x shows at pend lay))
    (lay_out g v core l.piece l.round e.partition c.in_ok-word.word x (core.pending n) pend lay.may.piece lay.round lay.may.partition (c.in_ok-word.ensures.word core shows) (full.0 refl))
    (lay_takes g core l.piece (core.pending n))
