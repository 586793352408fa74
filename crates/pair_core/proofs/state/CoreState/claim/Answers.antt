use Rattle.std.proofs.Common.{◌∷◌, ◌<◌, ◌/◌, ◌%◌, ◌∙◌, List, Some, sym, subst, ap, refl}
use Rattle.part_geometry.specs.Shape.{Shape}
use Rattle.pair_core.specs.Core.{Out}
use Rattle.pair_core.specs.Names.{Claim, Fits, put, claim_words}
use Rattle.pair_core.specs.Steps.{mark, put_slots as slots_after}
use Rattle.pair_core.specs.Picks.{picked}
use Rattle.pair_core.specs.State.{IsAt, word_count}
use Rattle.pair_core.specs.Shows.{Shows}
use Rattle.pair_core.specs.declared.seat.Seat.{Seat}
use Rattle.pair_core.specs.declared.seat.Pick.TheVariants.{Sent}
use Rattle.pair_core.proofs.Cut.{claim_word}
use Rattle.pair_core.proofs.StateAdds.{at_low}
use Rattle.pair_core.proofs.StateClaim.{claim_number, claims_shown}
use Rattle.pair_core.proofs.state.CoreState.claim.Goals as goal

pub word-word-requires : goal.word-word-requires
word-word-requires c = claim_number c.args.self.now.tables c.args.p c.requires.part

pub write-requires-clause-index : goal.write-requires-clause-index
write-requires-clause-index c =
    let t = c.put_slots.ensures.tables ∙ (c.set_pending.ensures.tables ∙ c.in_ok-add_mark.ensures.tables) in
    subst (λ (g : Shape). c.args.p / 32 < word_count g) (sym t) (claim_number c.args.self.now.tables c.args.p c.requires.part)

pub returns-clause-tables : goal.returns-clause-tables
returns-clause-tables c = c.write.ensures.tables ∙ (c.put_slots.ensures.tables ∙ (c.set_pending.ensures.tables ∙ c.in_ok-add_mark.ensures.tables))

pub set_pending-requires : goal.set_pending-requires
set_pending-requires c = at_low c.add_mark.new.self.seats.items c.args.at c.args.seat (c.in_ok-add_mark.ensures.seats c.args.at c.args.seat c.requires.at)

pub write-requires-clause-at : goal.write-requires-clause-at
write-requires-clause-at c = at_low c.put_slots.new.self.seats.items c.args.at c.args.seat
    (subst (λ (l : List Seat). IsAt l c.args.at c.args.seat) (sym c.put_slots.ensures.seats) (c.set_pending.ensures.seats c.args.at c.args.seat (c.in_ok-add_mark.ensures.seats c.args.at c.args.seat c.requires.at)))

pub returns-clause-shows : goal.returns-clause-shows
returns-clause-shows c = λ core shows.
    let s = c.args.self.now in let g = s.tables in let p = c.args.p in let n = c.args.seat in
    let at1 = c.in_ok-add_mark.ensures.seats c.args.at n c.requires.at in
    let at2 = c.set_pending.ensures.seats c.args.at n at1 in
    let at3 = subst (λ (l : List Seat). IsAt l c.args.at n) (sym c.put_slots.ensures.seats) at2 in
    let t2 = c.set_pending.ensures.tables ∙ c.in_ok-add_mark.ensures.tables in let t3 = c.put_slots.ensures.tables ∙ t2 in
    let fits : p / 32 < claim_words g = claim_word g p c.requires.part in
    let shown1 = c.in_ok-add_mark.ensures.shows core n shows c.requires.at in
    let shown2 = c.set_pending.ensures.shows _ n shown1 at1 in
    let shown3 = subst (λ (z : Shape). Shows c.put_slots.new.self (record core {
      slot = slots_after core.slot c.place-place.result (picked z (Sent p)) (Out n);
      pending = put core.pending n (Some record { round = s.send.round; partition = p; laid = c.new.result });
      marks = put core.marks n (mark s.send.round p tt ∷ core.marks n);
    })) t2
    (c.put_slots.ensures.shows _ shown2) in
    claims_shown g (Shows c.write.new.self) core s.send c.place-place.result n p c.word-word.result c.with_bit.result c.new.result shows.send_are c.new.ensures
    (c.place-place.ensures.value ∙ ap (λ (z : Shape). s.send.round % z.depth) t2)
    (c.word-word.ensures core (Claim (p / 32)) shows fits refl) c.with_bit.ensures
    (c.write.ensures.shows _ n (Claim (p / 32)) shown3 at3 (subst (λ (z : Shape). Fits z (Claim (p / 32))) (sym t3) fits) refl)
