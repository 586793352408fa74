use Rattle.std.proofs.Common.{◌∙◌, ◌%◌, ◌^◌, ℕ, List, bit_or, sym, subst, ap, ◌<◌, ◌-◌}
use Rattle.part_geometry.specs.Shape.{Shape}
use Rattle.pair_core.specs.Core.{Home}
use Rattle.pair_core.specs.Names.{Piece, Fits, number, put}
use Rattle.pair_core.specs.Steps.{put_slots as slots_after}
use Rattle.pair_core.specs.Picks.{picked}
use Rattle.pair_core.specs.Laying.{laid_on}
use Rattle.pair_core.specs.State.{IsAt, word_count}
use Rattle.pair_core.specs.Shows.{Shows}
use Rattle.pair_core.specs.declared.seat.Seat.{Seat}
use Rattle.pair_core.specs.declared.seat.Pick.TheVariants.{Laid}
use Rattle.pair_core.proofs.StateAdds.{at_low}
use Rattle.pair_core.proofs.StateLay.{lays_shown, low_at}
use Rattle.part_geometry.specs.Pieces.{first_part}
use Rattle.pair_core.proofs.state.CoreState.lay_into.Goals as goal

pub put_slots-requires : goal.put_slots-requires
put_slots-requires c = subst (λ (g : Shape). c.place-place.result < g.depth) (sym c.in_ok-lay.ensures.tables) c.place-place.ensures.limits

pub write-requires-clause-index : goal.write-requires-clause-index
write-requires-clause-index c =
    subst (λ (g : Shape). c.piece_word-index.result < word_count g) (sym (c.put_slots.ensures.tables ∙ c.in_ok-lay.ensures.tables)) c.piece_word-index.ensures.limits

pub returns-clause-tables : goal.returns-clause-tables
returns-clause-tables c = c.write.ensures.tables ∙ (c.put_slots.ensures.tables ∙ c.in_ok-lay.ensures.tables)

pub returns-clause-word : goal.returns-clause-word
returns-clause-word c = λ core shows.
    let g = c.args.self.now.tables in let i = c.args.lay.piece in let place = c.place-place.result in
    (c.with_bit-word.ensures ∙ ap (λ (z : ℕ). bit_or c.word.result (2 ^ z)) c.part_bit-bit.ensures.value)
    ∙ ap (λ (w : ℕ). bit_or w (2 ^ (c.args.p - first_part g i)))
    (c.word.ensures core (Piece place i) shows (c.place-place.ensures.limits, c.requires.piece) (sym c.piece_word-index.ensures.value) ∙ ap (λ (z : ℕ). core.word (Piece z i)) c.place-place.ensures.value)

pub write-requires-clause-at : goal.write-requires-clause-at
write-requires-clause-at c =
    let there = low_at c.args.self.now.seats.items c.args.at c.requires.at in
    at_low c.put_slots.new.self.seats.items c.args.at there.0
    (subst (λ (l : List Seat). IsAt l c.args.at there.0) (sym c.put_slots.ensures.seats) (c.in_ok-lay.ensures.seats c.args.at there.0 there.1))

pub returns-clause-shows : goal.returns-clause-shows
returns-clause-shows c = λ core n word x shows there pend lay.
    let g = c.args.self.now.tables in let p = c.args.p in let k = c.args.lay.round in let i = c.args.lay.piece in let place = c.place-place.result in
    let o = laid_on c.args.lay.last i (core.pending n) in
    let at = subst (λ (l : List Seat). IsAt l c.args.at n) (sym c.put_slots.ensures.seats) (c.in_ok-lay.ensures.seats c.args.at n there) in
    let tables = c.put_slots.ensures.tables ∙ c.in_ok-lay.ensures.tables in
    let fits : Fits g (Piece place i) = (c.place-place.ensures.limits, c.requires.piece) in
    let num = sym c.piece_word-index.ensures.value in
    let placed = c.place-place.ensures.value ∙ ap (λ (z : ℕ). z % g.depth) lay.round in
    lays_shown g (Shows c.write.new.self) core n i p k place c.word.result c.with_bit-word.result x o lay.may.partition lay.round c.place-place.ensures.value
    (c.word.ensures core (Piece place i) shows fits num ∙ ap (λ (z : ℕ). core.word (Piece z i)) placed)
    (c.with_bit-word.ensures ∙ ap (λ (z : ℕ). bit_or c.word.result (2 ^ z)) c.part_bit-bit.ensures.value)
    (lay.left ∙ ap (laid_on c.args.lay.last i) (sym pend))
    (c.write.ensures.shows _ n (Piece place i)
    (subst (λ (z : Shape). Shows c.put_slots.new.self (record core { slot = slots_after core.slot place (picked z (Laid p i)) (Home k); pending = put core.pending n o })) c.in_ok-lay.ensures.tables
    (c.put_slots.ensures.shows _ (c.in_ok-lay.ensures.shows core n shows there)))
    at (subst (λ (z : Shape). Fits z (Piece place i)) (sym tables) fits) (ap (λ (z : Shape). number z (Piece place i)) tables ∙ num))
