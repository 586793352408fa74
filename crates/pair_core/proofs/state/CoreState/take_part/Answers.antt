use Rattle.std.proofs.Common.{◌∷◌, ◌<◌, ◌/◌, ◌%◌, ◌∙◌, ℕ, List, Some, None, refl, sym, subst, ap, true≢false, arith, ◌≤◌}
use Rattle.part_geometry.specs.Shape.{Shape}
use Rattle.pair_core.specs.Names.{Take, Fits, number, take_words}
use Rattle.pair_core.specs.Moves.{TakePart, IsAllowed, AreSeen, IsRecvActive}
use Rattle.pair_core.specs.Core.{Out}
use Rattle.pair_core.specs.Steps.{mark, put_slots as slots_after}
use Rattle.pair_core.specs.Picks.{picked}
use Rattle.pair_core.specs.declared.seat.Pick.TheVariants.{Received}
use Rattle.pair_core.specs.State.{IsAt}
use Rattle.pair_core.specs.Shows.{Shows}
use Rattle.pair_core.specs.declared.view.RecvSide.{RecvSide}
use Rattle.pair_core.specs.declared.seat.Seat.{Seat}
use Rattle.pair_core.proofs.Cut.{take_word}
use Rattle.pair_core.proofs.StateSeats.{recv_at}
use Rattle.pair_core.proofs.StateReads.{reads_11}
use Rattle.pair_core.proofs.StateBecomes.{becomes_done}
use Rattle.pair_core.proofs.StateSend.{taken_allowed, taken_shown}
use Rattle.pair_core.specs.Reading.{part_bit}
use Rattle.pair_core.proofs.state.CoreState.take_part.Goals as goal

pub returns-then-event-ne1-clause-becomes : goal.returns-then-event-ne1-clause-becomes
returns-then-event-ne1-clause-becomes c = λ core shows.
    let g = c.args.self.now.tables in let e = c.args.event.now in (
      reads_11 g core e (λ m. ¬ IsAllowed g core m) c.requires (λ p a reads allowed.
          c.if-event-ne1.true reads.0.by),
      shows,
    )

pub returns-then-q-recv_parts-clause-becomes : goal.returns-then-q-recv_parts-clause-becomes
returns-then-q-recv_parts-clause-becomes c = λ core shows.
    let g = c.args.self.now.tables in let e = c.args.event.now in (
      reads_11 g core e (λ m. ¬ IsAllowed g core m) c.requires (λ p a reads allowed.
          let high : g.recv_parts ≤ e.partition = omega (arith, c.if-q-recv_parts.true, c.recv_parts.ensures.value, ap (λ (g : Shape). g.recv_parts) c.geometry.ensures.value) in
          let is = reads.1 in let low = allowed.0 in omega arith),
      shows,
    )

pub returns-then-event-index-clause-becomes : goal.returns-then-event-index-clause-becomes
returns-then-event-index-clause-becomes c = λ core shows.
    let g = c.args.self.now.tables in let e = c.args.event.now in (
      reads_11 g core e (λ m. ¬ IsAllowed g core m) c.requires (λ p a reads allowed.
          c.if-event-index.true (reads.0.on ∙ (ap (λ (z : ℕ). number g (Take (z / 32))) (sym reads.1) ∙ sym c.take_word-index.ensures.value))),
      shows,
    )

pub returns-then-not-is_recv_active-clause-becomes : goal.returns-then-not-is_recv_active-clause-becomes
returns-then-not-is_recv_active-clause-becomes c = λ core shows.
    let g = c.args.self.now.tables in let e = c.args.event.now in (
      reads_11 g core e (λ m. ¬ IsAllowed g core m) c.requires (λ p a reads allowed.
          absurd (true≢false (sym (c.if-not-is_recv_active.ensures.1 (subst (IsRecvActive g) (sym shows.recv_are) allowed.1))))),
      shows,
    )

pub returns-then-take_bit-ne0-clause-becomes : goal.returns-then-take_bit-ne0-clause-becomes
returns-then-take_bit-ne0-clause-becomes c = λ core shows.
    let g = c.args.self.now.tables in let e = c.args.event.now in (
      reads_11 g core e (λ m. ¬ IsAllowed g core m) c.requires (λ p a reads allowed.
          c.if-take_bit-ne0.true (c.take_bit.ensures core shows ∙ (ap (part_bit (λ t. core.word (Take t))) reads.1 ∙ allowed.2))),
      shows,
    )

pub returns-then-not-sees_over-clause-becomes : goal.returns-then-not-sees_over-clause-becomes
returns-then-not-sees_over-clause-becomes c = λ core shows.
    let s = c.args.self.now in let g = s.tables in let e = c.args.event.now in (
      reads_11 g core e (λ m. ¬ IsAllowed g core m) c.requires (λ q a reads allowed.
          absurd (true≢false (sym ((c.if-not-sees_over.ensures core shows).1
          (subst (λ (d : RecvSide). AreSeen g (core.seen 1) d.round e.partition) (sym shows.recv_are) (subst (λ (z : ℕ). AreSeen g (core.seen 1) core.recv.round z) (sym reads.1) allowed.3)))))),
      shows,
    )

pub returns-clause-becomes : goal.returns-clause-becomes
returns-clause-becomes c = λ core shows.
    let s = c.args.self.now in let g = s.tables in let e = c.args.event.now in let q = e.partition in
    let at = recv_at s.tables s.words.items s.slots.items s.send s.recv s.seats.items s.kept in
    let low : q < g.recv_parts = omega (arith, c.recv_parts.ensures.value, ap (λ (g : Shape). g.recv_parts) c.geometry.ensures.value) in
    let fits : q / 32 < take_words g = take_word g q low in
    let num = sym c.take_word-index.ensures.value in
    let tables = c.put_slots.ensures.tables ∙ c.in_ok-add_take.ensures.tables in
    let seats = c.put_slots.ensures.seats ∙ c.in_ok-add_take.ensures.seats in
    becomes_done g e (Shows c.write.new.self) core c.taking.result (TakePart q tt) None (Some (s.recv.round, q)) c.taking.ensures
    (record { by = omega arith; kind_is = c.requires; on = omega arith }, refl)
    (taken_allowed g core s.recv q shows.recv_are low (c.if-not-is_recv_active.ensures.0 refl) (sym (c.take_bit.ensures core shows) ∙ c.if-take_bit-ne0.false) ((c.if-not-sees_over.ensures core shows).0 refl))
    (taken_shown g (Shows c.write.new.self) core s.recv c.place-place.result q c.word-word.result c.with_bit.result shows.recv_are
    (c.place-place.ensures.value ∙ ap (λ (z : Shape). s.recv.round % z.depth) c.in_ok-add_take.ensures.tables)
    (c.word-word.ensures core (Take (q / 32)) shows fits num) c.with_bit.ensures
    (c.write.ensures.shows _ 1 (Take (q / 32)) (subst (λ (z : Shape). Shows c.put_slots.new.self (record core { slot = slots_after core.slot c.place-place.result (picked z (Received q)) (Out 1); takes = mark s.recv.round q tt ∷ core.takes })) c.in_ok-add_take.ensures.tables (c.put_slots.ensures.shows _ (c.in_ok-add_take.ensures.shows core shows)))
    (subst (λ (l : List Seat). IsAt l 1 1) (sym seats) at)
    (subst (λ (z : Shape). Fits z (Take (q / 32))) (sym tables) fits)
    (ap (λ (z : Shape). number z (Take (q / 32))) tables ∙ num)))
    refl (ap (λ (d : RecvSide). Some (d.round, q)) shows.recv_are)
