use Rattle.std.proofs.Common.{refl, sym, true≢false, arith, ◌∙◌, subst, ap}
use Rattle.pair_core.specs.Names.{Release}
use Rattle.pair_core.specs.Moves.{StoreRelease, IsAllowed, IsRecvActive}
use Rattle.pair_core.specs.Shows.{Shows}
use Rattle.pair_core.proofs.StateSeats.{recv_at}
use Rattle.pair_core.proofs.StateReads.{reads_13}
use Rattle.pair_core.proofs.StateBecomes.{becomes_quiet}
use Rattle.pair_core.proofs.StateSend.{release_allowed, release_shown}
use Rattle.pair_core.specs.declared.view.RecvSide.{RecvSide}
use Rattle.pair_core.proofs.state.CoreState.store_release.Goals as goal

pub returns-then-event-ne1-clause-becomes : goal.returns-then-event-ne1-clause-becomes
returns-then-event-ne1-clause-becomes c = λ core shows.
    let g = c.args.self.now.tables in let e = c.args.event.now in (
      reads_13 g core e (λ m. ¬ IsAllowed g core m) c.requires (λ k reads allowed.
          c.if-event-ne1.true reads.0.by),
      shows,
    )

pub returns-then-event-release-clause-becomes : goal.returns-then-event-release-clause-becomes
returns-then-event-release-clause-becomes c = λ core shows.
    let g = c.args.self.now.tables in let e = c.args.event.now in (
      reads_13 g core e (λ m. ¬ IsAllowed g core m) c.requires (λ k reads allowed.
          c.if-event-release.true (reads.0.on ∙ sym c.claim_words-release.ensures.value)),
      shows,
    )

pub returns-then-event-recv-clause-becomes : goal.returns-then-event-recv-clause-becomes
returns-then-event-recv-clause-becomes c = λ core shows.
    let g = c.args.self.now.tables in let e = c.args.event.now in (
      reads_13 g core e (λ m. ¬ IsAllowed g core m) c.requires (λ k reads allowed.
          c.if-event-recv.true (reads.1 ∙ (allowed.0 ∙ sym (ap (λ (d : RecvSide). d.round) shows.recv_are)))),
      shows,
    )

pub returns-then-not-is_recv_active-clause-becomes : goal.returns-then-not-is_recv_active-clause-becomes
returns-then-not-is_recv_active-clause-becomes c = λ core shows.
    let g = c.args.self.now.tables in let e = c.args.event.now in (
      reads_13 g core e (λ m. ¬ IsAllowed g core m) c.requires (λ k reads allowed.
          absurd (true≢false (sym (c.if-not-is_recv_active.ensures.1 (subst (IsRecvActive g) (sym shows.recv_are) allowed.1))))),
      shows,
    )

pub returns-then-not-are_back-clause-becomes : goal.returns-then-not-are_back-clause-becomes
returns-then-not-are_back-clause-becomes c = λ core shows. (
  reads_13 c.args.self.now.tables core c.args.event.now (λ m. ¬ IsAllowed c.args.self.now.tables core m) c.requires
      (λ k reads allowed. absurd (true≢false (sym ((c.if-not-are_back.ensures core shows).1 allowed.2)))),
  shows,
)

pub returns-clause-becomes : goal.returns-clause-becomes
returns-clause-becomes c = λ core shows.
    let s = c.args.self.now in let e = c.args.event.now in
    let at = recv_at s.tables s.words.items s.slots.items s.send s.recv s.seats.items s.kept in
    becomes_quiet s.tables e (Shows c.set_recv.new.self) core c.quietly.result (StoreRelease e.round) c.quietly.ensures
    (record { by = omega arith; kind_is = c.requires; on = omega arith }, refl)
    (release_allowed s.tables core s.recv e.round shows.recv_are (omega arith) (c.if-not-is_recv_active.ensures.0 refl) ((c.if-not-are_back.ensures core shows).0 refl))
    (release_shown (Shows c.set_recv.new.self) core s.recv e.round c.empty_word.result shows.recv_are c.empty_word.ensures (omega arith)
    (c.set_recv.ensures.shows _ (c.write.ensures.shows core 1 Release shows at tt (omega arith))))
    refl refl
