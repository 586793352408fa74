use Rattle.std.proofs.Common.{refl, ◌==◌, arith, ◌<◌, ◌∙◌, ℕ, sym, subst, ap, true≢false}
use Rattle.pair_core.specs.Names.{Claim, claim_words}
use Rattle.pair_core.specs.Moves.{ShutClaim, IsAllowed}
use Rattle.pair_core.specs.History.{Shut}
use Rattle.pair_core.specs.Shows.{Shows}
use Rattle.pair_core.proofs.StateSeats.{send_at}
use Rattle.pair_core.proofs.StateBecomes.{becomes_quiet, no_out, no_take}
use Rattle.pair_core.proofs.StateSend.{shut_allowed, shut_shown}
use Rattle.pair_core.specs.declared.view.SendSide.{SendSide}
use Rattle.pair_core.proofs.StateReads.{reads_6}
use Rattle.pair_core.proofs.state.CoreState.shut_claim.Goals as goal

pub returns-then-event-ne0-clause-becomes : goal.returns-then-event-ne0-clause-becomes
returns-then-event-ne0-clause-becomes c = λ core shows.
    let g = c.args.self.now.tables in let e = c.args.event.now in (
      reads_6 g core e (λ m. ¬ IsAllowed g core m) c.requires (λ b reads allowed.
          c.if-event-ne0.true reads.by),
      shows,
    )

pub returns-then-not-shuts_next-clause-becomes : goal.returns-then-not-shuts_next-clause-becomes
returns-then-not-shuts_next-clause-becomes c = λ core shows.
    let g = c.args.self.now.tables in let e = c.args.event.now in (
      reads_6 g core e (λ m. ¬ IsAllowed g core m) c.requires (λ b reads allowed.
          absurd (true≢false (sym (c.if-not-shuts_next.ensures.next.1 (
            subst (λ (z : ℕ). z < claim_words g) (sym reads.on) allowed.0,
            ap (λ (d : SendSide). d.opened) shows.send_are ∙ allowed.1,
            reads.on ∙ (allowed.2 ∙ sym (ap (λ (d : SendSide). d.shut) shows.send_are)),
          ))))),
      shows,
    )

pub returns-then-not-may_shut_word-clause-becomes : goal.returns-then-not-may_shut_word-clause-becomes
returns-then-not-may_shut_word-clause-becomes c = λ core shows.
    let g = c.args.self.now.tables in let e = c.args.event.now in (
      reads_6 g core e (λ m. ¬ IsAllowed g core m) c.requires (λ b reads allowed.
          absurd (true≢false (sym ((c.if-not-may_shut_word.ensures core shows).1 (λ zero. allowed.3 (sym reads.on ∙ zero)))))),
      shows,
    )

pub returns-clause-becomes : goal.returns-clause-becomes
returns-clause-becomes c = λ core shows.
    let s = c.args.self.now in let e = c.args.event.now in
    let at = send_at s.tables s.words.items s.slots.items s.send s.recv s.seats.items s.kept in
    let next = c.if-not-shuts_next.ensures.next.0 refl in
    becomes_quiet s.tables e (Shows c.set_send.new.self) core c.quietly.result (ShutClaim e.word) c.quietly.ensures
    (record { by = omega arith; kind_is = c.requires; on = refl })
    (shut_allowed s.tables core s.send e.word shows.send_are next ((c.if-not-may_shut_word.ensures core shows).0 refl))
    (shut_shown (Shows c.set_send.new.self) core s.send e.word c.word-word.result c.with_bit.result shows.send_are (c.word-word.ensures core (Claim e.word) shows next.0 refl) c.with_bit.ensures
    (c.set_send.ensures.shows _ (c.write.ensures.shows core 0 (Claim e.word) shows at next.0 refl)))
    (no_out (e.word == 0) (Shut core.send.round) refl) (no_take (e.word == 0) (Shut core.send.round) refl)
