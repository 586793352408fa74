use Rattle.std.proofs.Common.{◌≡◌, ◌-◌, ◌==◌, ◌+◌, sym, refl, arith, ◌<◌, ◌∙◌, ℕ, subst, ap, true≢false}
use Rattle.pair_core.specs.Names.{Take, number, take_words}
use Rattle.pair_core.specs.Moves.{StoreTake, IsAllowed}
use Rattle.pair_core.specs.History.{Listen}
use Rattle.pair_core.specs.Shows.{Shows}
use Rattle.pair_core.proofs.StateSeats.{recv_at}
use Rattle.pair_core.proofs.StateBecomes.{becomes_quiet, no_out, no_take}
use Rattle.pair_core.proofs.StateSend.{take_allowed, take_shown}
use Rattle.pair_core.specs.declared.view.RecvSide.{RecvSide}
use Rattle.pair_core.proofs.StateReads.{reads_10}
use Rattle.pair_core.proofs.state.CoreState.store_take.Goals as goal

pub returns-then-event-ne1-clause-becomes : goal.returns-then-event-ne1-clause-becomes
returns-then-event-ne1-clause-becomes c = λ core shows.
    let g = c.args.self.now.tables in let e = c.args.event.now in (
      reads_10 g core e (λ m. ¬ IsAllowed g core m) c.requires (λ k t reads allowed.
          c.if-event-ne1.true reads.0.by),
      shows,
    )

pub returns-then-word-first-clause-becomes : goal.returns-then-word-first-clause-becomes
returns-then-word-first-clause-becomes c = λ core shows.
    let g = c.args.self.now.tables in let e = c.args.event.now in (
      reads_10 g core e (λ m. ¬ IsAllowed g core m) c.requires (λ k t reads allowed.
          let low = c.if-word-first.true in let on = reads.0.on in omega (arith, c.claim_words-first.ensures.value)),
      shows,
    )

pub returns-then-not-takes_next-clause-becomes : goal.returns-then-not-takes_next-clause-becomes
returns-then-not-takes_next-clause-becomes c = λ core shows.
    let g = c.args.self.now.tables in let e = c.args.event.now in (
      reads_10 g core e (λ m. ¬ IsAllowed g core m) c.requires (λ k t reads allowed.
          let same : e.word - (c.claim_words-first.result + 1) ≡ t = (let on = reads.0.on in omega (arith, c.claim_words-first.ensures.value)) in
          absurd (true≢false (sym (c.if-not-takes_next.ensures.next.1 (
            subst (λ (z : ℕ). z < take_words g) (sym same) allowed.0,
            reads.1 ∙ (allowed.1 ∙ sym (ap (λ (d : RecvSide). d.round) shows.recv_are)),
            ap (λ (d : RecvSide). d.returns) shows.recv_are ∙ allowed.2,
            same ∙ (allowed.3 ∙ sym (ap (λ (d : RecvSide). d.takes) shows.recv_are)),
          ))))),
      shows,
    )

pub returns-clause-becomes : goal.returns-clause-becomes
returns-clause-becomes c = λ core shows.
    let s = c.args.self.now in let e = c.args.event.now in
    let at = recv_at s.tables s.words.items s.slots.items s.send s.recv s.seats.items s.kept in
    let next = c.if-not-takes_next.ensures.next.0 refl in
    let t = e.word - (c.claim_words-first.result + 1) in
    let num : number s.tables (Take t) ≡ e.word = omega (arith, c.claim_words-first.ensures.value) in
    becomes_quiet s.tables e (Shows c.set_recv.new.self) core c.quietly.result (StoreTake e.round t) c.quietly.ensures
    (record { by = omega arith; kind_is = c.requires; on = sym num }, refl)
    (take_allowed s.tables core s.recv e.round t shows.recv_are next)
    (take_shown (Shows c.set_recv.new.self) core s.recv e.round t c.empty_word.result shows.recv_are c.empty_word.ensures next.1
    (c.set_recv.ensures.shows _ (c.write.ensures.shows core 1 (Take t) shows at next.0 num)))
    (no_out (t + 1 == take_words s.tables) (Listen e.round) refl) (no_take (t + 1 == take_words s.tables) (Listen e.round) refl)
