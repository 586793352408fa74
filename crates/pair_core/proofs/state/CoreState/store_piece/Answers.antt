use Rattle.std.proofs.Common.{◌%◌, ℕ, refl, sym, ap, ◌∙◌, arith, ◌≤◌, ◌+◌, true≢false, subst, ◌≡◌}
use Rattle.pair_core.specs.Names.{Piece, number, Release, claim_words}
use Rattle.pair_core.specs.Moves.{IsAllowed, StorePiece, IsSendIdle}
use Rattle.pair_core.specs.Shows.{Shows}
use Rattle.pair_core.proofs.StateSeats.{send_at}
use Rattle.pair_core.proofs.StateReads.{reads_1}
use Rattle.pair_core.proofs.StateBecomes.{becomes_quiet}
use Rattle.pair_core.proofs.StateSend.{piece_allowed, piece_shown}
use Rattle.gate_word.specs.Words.{round_in}
use Rattle.std.specs.Prelude.{◌⊎◌}
use Rattle.pair_core.specs.declared.view.SendSide.{SendSide}
use Rattle.pair_core.proofs.state.CoreState.store_piece.Goals as goal

pub returns-then-not-begins_next-clause-becomes : goal.returns-then-not-begins_next-clause-becomes
returns-then-not-begins_next-clause-becomes c = λ core shows.
    let s = c.args.self.now in let g = s.tables in let e = c.args.event.now in let i = c.in-Some.i in let found = c.in-Some.ensures.some in (
      reads_1 g core e (λ m. ¬ IsAllowed g core m) c.requires (λ k j reads allowed.
          let place : k % g.depth ≡ c.place-place.result = ap (λ (z : ℕ). z % g.depth) (sym reads.1) ∙ sym c.place-place.ensures.value in
          let on : e.word ≡ number g (Piece c.place-place.result j) = reads.0.on ∙ ap (λ (z : ℕ). number g (Piece z j)) place in
          let same : j ≡ i = (let there = found.1 in omega arith) in
          let next = subst (λ (d : SendSide). ((j ≡ 0) × IsSendIdle g d × (k ≡ d.round + 1)) ⊎ ((1 ≤ j) × (j ≡ d.pieces) × (k ≡ d.round))) (sym shows.send_are) allowed.3 in
          let here = subst (λ (z : ℕ). ((z ≡ 0) × IsSendIdle g s.send × (k ≡ s.send.round + 1)) ⊎ ((1 ≤ z) × (z ≡ s.send.pieces) × (k ≡ s.send.round))) same next in
          absurd (true≢false (sym (c.if-not-begins_next.ensures.1
          (subst (λ (z : ℕ). ((i ≡ 0) × (s.send.shut ≡ claim_words g) × (z ≡ s.send.round + 1)) ⊎ ((1 ≤ i) × (i ≡ s.send.pieces) × (z ≡ s.send.round))) (sym reads.1) here))))),
      shows,
    )

pub returns-then-event-ne0-clause-becomes : goal.returns-then-event-ne0-clause-becomes
returns-then-event-ne0-clause-becomes c = λ core shows.
    let g = c.args.self.now.tables in let e = c.args.event.now in (
      reads_1 g core e (λ m. ¬ IsAllowed g core m) c.requires (λ k i reads allowed.
          c.if-event-ne0.true reads.0.by),
      shows,
    )

pub returns-then-round-gt-LAST_ROUND-clause-becomes : goal.returns-then-round-gt-LAST_ROUND-clause-becomes
returns-then-round-gt-LAST_ROUND-clause-becomes c = λ core shows.
    let g = c.args.self.now.tables in let e = c.args.event.now in (
      reads_1 g core e (λ m. ¬ IsAllowed g core m) c.requires (λ k i reads allowed.
          let high = c.if-round-gt-LAST_ROUND.true in let low = allowed.1 in let same = reads.1 in omega arith),
      shows,
    )

pub returns-then-not-has_room-clause-becomes : goal.returns-then-not-has_room-clause-becomes
returns-then-not-has_room-clause-becomes c = λ core shows.
    let g = c.args.self.now.tables in let e = c.args.event.now in (
      reads_1 g core e (λ m. ¬ IsAllowed g core m) c.requires (λ k i reads allowed.
          absurd (true≢false (sym ((c.if-not-has_room.ensures core shows).1 (subst (λ (z : ℕ). z ≤ round_in (core.seen 0 Release) + g.depth) (sym reads.1) allowed.2))))),
      shows,
    )

pub returns-in_default-clause-becomes : goal.returns-in_default-clause-becomes
returns-in_default-clause-becomes c = λ core shows.
    let g = c.args.self.now.tables in let e = c.args.event.now in (
      reads_1 g core e (λ m. ¬ IsAllowed g core m) c.requires (λ k i reads allowed.
          c.in_default.ensures.none i allowed.0 (reads.0.on ∙ ap (λ (z : ℕ). number g (Piece z i)) (ap (λ (z : ℕ). z % g.depth) (sym reads.1) ∙ sym c.place-place.ensures.value))),
      shows,
    )

pub returns-clause-becomes : goal.returns-clause-becomes
returns-clause-becomes c = λ core shows.
    let s = c.args.self.now in let e = c.args.event.now in
    let at = send_at s.tables s.words.items s.slots.items s.send s.recv s.seats.items s.kept in
    let found = c.in-Some.ensures.some in
    let next = c.if-not-begins_next.ensures.0 refl in
    let room = (c.if-not-has_room.ensures core shows).0 refl in
    becomes_quiet s.tables e (Shows c.set_send.new.self) core c.quietly.result (StorePiece e.round c.in-Some.i) c.quietly.ensures
    (record { by = omega arith; kind_is = c.requires; on = found.1 ∙ ap (λ (z : ℕ). number s.tables (Piece z c.in-Some.i)) c.place-place.ensures.value }, refl)
    (piece_allowed s.tables core s.send e.round c.in-Some.i shows.send_are found.0 (omega arith) room next)
    (piece_shown s.tables (Shows c.set_send.new.self) core s.send c.place-place.result e.round c.in-Some.i c.empty_word.result shows.send_are c.empty_word.ensures c.place-place.ensures.value
    (c.set_send.ensures.shows _ (c.write.ensures.shows core 0 (Piece c.place-place.result c.in-Some.i) shows at (c.place-place.ensures.limits, found.0) (sym found.1))))
    refl refl
