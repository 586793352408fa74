use Rattle.std.proofs.Common.{◌≡◌, ◌<◌, ◌+◌, ◌-◌, sym, refl, arith, ◌≤◌, ℕ, subst, true≢false}
use Rattle.pair_core.specs.Names.{Return, number, take_words}
use Rattle.pair_core.specs.Moves.{StoreReturn, IsAllowed, IsRecvIdle}
use Rattle.pair_core.specs.Shows.{Shows}
use Rattle.pair_core.proofs.StateSeats.{recv_at}
use Rattle.pair_core.proofs.StateBecomes.{becomes_quiet}
use Rattle.pair_core.proofs.StateSend.{return_allowed, return_shown}
use Rattle.pair_core.proofs.StateReads.{reads_9}
use Rattle.std.specs.Prelude.{◌⊎◌}
use Rattle.pair_core.specs.declared.view.RecvSide.{RecvSide}
use Rattle.pair_core.proofs.state.CoreState.store_return.Goals as goal

pub returns-then-not-returns_next-clause-becomes : goal.returns-then-not-returns_next-clause-becomes
returns-then-not-returns_next-clause-becomes c = λ core shows.
    let s = c.args.self.now in let g = s.tables in let e = c.args.event.now in
    let n = e.word - (c.claim_words.result + 1 + c.take_words.result) in (
      reads_9 g core e (λ m. ¬ IsAllowed g core m) c.requires (λ k t reads allowed.
          let same : t ≡ n = (let on = reads.0.on in omega (arith, c.claim_words.ensures.value, c.take_words.ensures.value)) in
          let next = subst (λ (d : RecvSide). ((t ≡ 0) × IsRecvIdle d × (k ≡ d.round + 1)) ⊎ ((1 ≤ t) × (t ≡ d.returns) × (k ≡ d.round))) (sym shows.recv_are) allowed.2 in
          let here = subst (λ (z : ℕ). ((z ≡ 0) × IsRecvIdle s.recv × (k ≡ s.recv.round + 1)) ⊎ ((1 ≤ z) × (z ≡ s.recv.returns) × (k ≡ s.recv.round))) same next in
          absurd (true≢false (sym (c.if-not-returns_next.ensures.1
          (subst (λ (z : ℕ). ((n ≡ 0) × (s.recv.released ≡ 1) × (z ≡ s.recv.round + 1)) ⊎ ((1 ≤ n) × (n ≡ s.recv.returns) × (z ≡ s.recv.round))) (sym reads.1) here))))),
      shows,
    )

pub returns-then-event-ne1-clause-becomes : goal.returns-then-event-ne1-clause-becomes
returns-then-event-ne1-clause-becomes c = λ core shows.
    let g = c.args.self.now.tables in let e = c.args.event.now in (
      reads_9 g core e (λ m. ¬ IsAllowed g core m) c.requires (λ k t reads allowed.
          c.if-event-ne1.true reads.0.by),
      shows,
    )

pub returns-then-round-gt-LAST_ROUND-clause-becomes : goal.returns-then-round-gt-LAST_ROUND-clause-becomes
returns-then-round-gt-LAST_ROUND-clause-becomes c = λ core shows.
    let g = c.args.self.now.tables in let e = c.args.event.now in (
      reads_9 g core e (λ m. ¬ IsAllowed g core m) c.requires (λ k t reads allowed.
          let high = c.if-round-gt-LAST_ROUND.true in let low = allowed.1 in let same = reads.1 in omega arith),
      shows,
    )

pub returns-clause-becomes : goal.returns-clause-becomes
returns-clause-becomes c = λ core shows.
    let s = c.args.self.now in let e = c.args.event.now in
    let at = recv_at s.tables s.words.items s.slots.items s.send s.recv s.seats.items s.kept in
    let next = c.if-not-returns_next.ensures.0 refl in
    let t = e.word - (c.claim_words.result + 1 + c.take_words.result) in
    let num : number s.tables (Return t) ≡ e.word = omega (arith, c.claim_words.ensures.value, c.take_words.ensures.value) in
    let inside : t < take_words s.tables = omega (arith, c.take_words-else-word-first.ensures.value) in
    becomes_quiet s.tables e (Shows c.set_recv.new.self) core c.quietly.result (StoreReturn e.round t) c.quietly.ensures
    (record { by = omega arith; kind_is = c.requires; on = sym num }, refl)
    (return_allowed s.tables core s.recv e.round t shows.recv_are inside (omega arith) next)
    (return_shown (Shows c.set_recv.new.self) core s.recv e.round t c.empty_word.result shows.recv_are c.empty_word.ensures
    (c.set_recv.ensures.shows _ (c.write.ensures.shows core 1 (Return t) shows at inside num)))
    refl refl
