use Rattle.std.proofs.Common.{refl, ◌==◌, arith, ◌<◌, ◌∙◌, ℕ, sym, subst, ap, true≢false}
use Rattle.pair_core.specs.Names.{Claim, claim_words}
use Rattle.pair_core.specs.Moves.{StoreClaim, IsAllowed}
use Rattle.pair_core.specs.History.{Open}
use Rattle.pair_core.specs.Shows.{Shows}
use Rattle.pair_core.proofs.StateSeats.{send_at}
use Rattle.pair_core.proofs.StateBecomes.{becomes_quiet, no_out, no_take}
use Rattle.pair_core.proofs.StateSend.{claim_allowed, claim_shown}
use Rattle.pair_core.specs.declared.view.SendSide.{SendSide}
use Rattle.pair_core.proofs.StateReads.{reads_2}
use Rattle.pair_core.proofs.state.CoreState.store_claim.Goals as goal

pub returns-then-event-ne0-clause-becomes : goal.returns-then-event-ne0-clause-becomes
returns-then-event-ne0-clause-becomes c = λ core shows.
    let g = c.args.self.now.tables in let e = c.args.event.now in (
      reads_2 g core e (λ m. ¬ IsAllowed g core m) c.requires (λ k b reads allowed.
          c.if-event-ne0.true reads.0.by),
      shows,
    )

pub returns-then-not-opens_next-clause-becomes : goal.returns-then-not-opens_next-clause-becomes
returns-then-not-opens_next-clause-becomes c = λ core shows.
    let g = c.args.self.now.tables in let e = c.args.event.now in (
      reads_2 g core e (λ m. ¬ IsAllowed g core m) c.requires (λ k b reads allowed.
          absurd (true≢false (sym (c.if-not-opens_next.ensures.next.1 (
            subst (λ (z : ℕ). z < claim_words g) (sym reads.0.on) allowed.0,
            reads.1 ∙ (allowed.1 ∙ sym (ap (λ (d : SendSide). d.round) shows.send_are)),
            ap (λ (d : SendSide). d.pieces) shows.send_are ∙ allowed.2,
            reads.0.on ∙ (allowed.3 ∙ sym (ap (λ (d : SendSide). d.opened) shows.send_are)),
          ))))),
      shows,
    )

pub returns-clause-becomes : goal.returns-clause-becomes
returns-clause-becomes c = λ core shows.
    let s = c.args.self.now in let e = c.args.event.now in
    let at = send_at s.tables s.words.items s.slots.items s.send s.recv s.seats.items s.kept in
    let next = c.if-not-opens_next.ensures.next.0 refl in
    becomes_quiet s.tables e (Shows c.set_send.new.self) core c.quietly.result (StoreClaim e.round e.word) c.quietly.ensures
    (record { by = omega arith; kind_is = c.requires; on = refl }, refl)
    (claim_allowed s.tables core s.send e.round e.word shows.send_are next)
    (claim_shown (Shows c.set_send.new.self) core s.send e.round e.word c.empty_word.result shows.send_are c.empty_word.ensures next.1
    (c.set_send.ensures.shows _ (c.write.ensures.shows core 0 (Claim e.word) shows at next.0 refl)))
    (no_out (e.word == 0) (Open e.round) refl) (no_take (e.word == 0) (Open e.round) refl)
