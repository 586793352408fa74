use Rattle.std.proofs.Common.{◌<◌, ◌/◌, ◌∙◌, List, refl, sym, subst, ap, arith, ◌≤◌, ℕ, true≢false}
use Rattle.part_geometry.specs.Shape.{Shape}
use Rattle.pair_core.specs.Names.{Return, Fits, number, take_words, Take}
use Rattle.pair_core.specs.Moves.{ReturnPart, IsAllowed, IsRecvActive}
use Rattle.pair_core.specs.State.{IsAt}
use Rattle.pair_core.specs.Shows.{Shows}
use Rattle.pair_core.specs.declared.seat.Seat.{Seat}
use Rattle.pair_core.proofs.Cut.{take_word}
use Rattle.pair_core.proofs.StateSeats.{recv_at}
use Rattle.pair_core.proofs.StateBecomes.{becomes_quiet}
use Rattle.pair_core.proofs.StateSend.{back_allowed, back_shown}
use Rattle.pair_core.specs.Reading.{part_bit}
use Rattle.pair_core.proofs.StateReads.{reads_12}
use Rattle.pair_core.proofs.state.CoreState.return_part.Goals as goal

pub returns-then-event-ne1-clause-becomes : goal.returns-then-event-ne1-clause-becomes
returns-then-event-ne1-clause-becomes c = λ core shows.
    let g = c.args.self.now.tables in let e = c.args.event.now in (
      reads_12 g core e (λ m. ¬ IsAllowed g core m) c.requires (λ p reads allowed.
          c.if-event-ne1.true reads.0.by),
      shows,
    )

pub returns-then-q-recv_parts-clause-becomes : goal.returns-then-q-recv_parts-clause-becomes
returns-then-q-recv_parts-clause-becomes c = λ core shows.
    let g = c.args.self.now.tables in let e = c.args.event.now in (
      reads_12 g core e (λ m. ¬ IsAllowed g core m) c.requires (λ p reads allowed.
          let high : g.recv_parts ≤ e.partition = omega (arith, c.if-q-recv_parts.true, c.recv_parts.ensures.value, ap (λ (g : Shape). g.recv_parts) c.geometry.ensures.value) in
          let is = reads.1 in let low = allowed.0 in omega arith),
      shows,
    )

pub returns-then-event-index-clause-becomes : goal.returns-then-event-index-clause-becomes
returns-then-event-index-clause-becomes c = λ core shows.
    let g = c.args.self.now.tables in let e = c.args.event.now in (
      reads_12 g core e (λ m. ¬ IsAllowed g core m) c.requires (λ p reads allowed.
          c.if-event-index.true (reads.0.on ∙ (ap (λ (z : ℕ). number g (Return (z / 32))) (sym reads.1) ∙ sym c.return_word-index.ensures.value))),
      shows,
    )

pub returns-then-not-is_recv_active-clause-becomes : goal.returns-then-not-is_recv_active-clause-becomes
returns-then-not-is_recv_active-clause-becomes c = λ core shows.
    let g = c.args.self.now.tables in let e = c.args.event.now in (
      reads_12 g core e (λ m. ¬ IsAllowed g core m) c.requires (λ p reads allowed.
          absurd (true≢false (sym (c.if-not-is_recv_active.ensures.1 (subst (IsRecvActive g) (sym shows.recv_are) allowed.1))))),
      shows,
    )

pub returns-then-take_bit-ne1-clause-becomes : goal.returns-then-take_bit-ne1-clause-becomes
returns-then-take_bit-ne1-clause-becomes c = λ core shows.
    let g = c.args.self.now.tables in let e = c.args.event.now in (
      reads_12 g core e (λ m. ¬ IsAllowed g core m) c.requires (λ p reads allowed.
          c.if-take_bit-ne1.true (c.take_bit.ensures core shows ∙ (ap (part_bit (λ t. core.word (Take t))) reads.1 ∙ allowed.2))),
      shows,
    )

pub returns-then-return_bit-ne0-clause-becomes : goal.returns-then-return_bit-ne0-clause-becomes
returns-then-return_bit-ne0-clause-becomes c = λ core shows.
    let g = c.args.self.now.tables in let e = c.args.event.now in (
      reads_12 g core e (λ m. ¬ IsAllowed g core m) c.requires (λ p reads allowed.
          c.if-return_bit-ne0.true (c.return_bit.ensures core shows ∙ (ap (part_bit (λ t. core.word (Return t))) reads.1 ∙ allowed.3))),
      shows,
    )

pub returns-clause-becomes : goal.returns-clause-becomes
returns-clause-becomes c = λ core shows.
    let s = c.args.self.now in let g = s.tables in let e = c.args.event.now in let q = e.partition in
    let at = recv_at s.tables s.words.items s.slots.items s.send s.recv s.seats.items s.kept in
    let low : q < g.recv_parts = omega (arith, c.recv_parts.ensures.value, ap (λ (g : Shape). g.recv_parts) c.geometry.ensures.value) in
    let fits : q / 32 < take_words g = take_word g q low in
    let num = sym c.return_word-index.ensures.value in
    becomes_quiet g e (Shows c.write.new.self) core c.quietly.result (ReturnPart q) c.quietly.ensures
    (record { by = omega arith; kind_is = c.requires; on = omega arith }, refl)
    (back_allowed g core s.recv q shows.recv_are low (c.if-not-is_recv_active.ensures.0 refl) (sym (c.take_bit.ensures core shows) ∙ c.if-take_bit-ne1.false) (sym (c.return_bit.ensures core shows) ∙ c.if-return_bit-ne0.false))
    (back_shown g (Shows c.write.new.self) core s.recv c.place-place.result q c.word-word.result c.with_bit.result shows.recv_are c.place-place.ensures.value
    (c.word-word.ensures core (Return (q / 32)) shows fits num) c.with_bit.ensures
    (c.write.ensures.shows _ 1 (Return (q / 32)) (c.put_slots.ensures.shows core shows)
    (subst (λ (l : List Seat). IsAt l 1 1) (sym c.put_slots.ensures.seats) at)
    (subst (λ (z : Shape). Fits z (Return (q / 32))) (sym c.put_slots.ensures.tables) fits)
    (ap (λ (z : Shape). number z (Return (q / 32))) c.put_slots.ensures.tables ∙ num)))
    refl refl
