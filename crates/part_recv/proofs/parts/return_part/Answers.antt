use Rattle.std.proofs.Common.{◌≡◌, ℕ, ◌/◌, ◌%◌, [], set, List, Option, Some, sym, ap, ◌∙◌, subst}
use Rattle.pair_core.specs.Names.{Return}
use Rattle.pair_rule.specs.Views.{seen}
use Rattle.pair_rule.specs.Seats.{RecvHeld, Room}
use Rattle.pair_rule.specs.Parts.{HasFilled, HasLeft, place_of, returned}
use Rattle.part_recv.proofs.Lending.{filled_seat, filled_values, back_seat}
use Rattle.part_recv.proofs.parts.return_part.Goals as goal

pub put_all-requires-clause-held : goal.put_all-requires-clause-held
put_all-requires-clause-held g c =
    let s : RecvHeld = c.args.seat.now in let e = c.place-place.result in
    let there : e ≡ place_of s.view = c.place-place.ensures.value ∙ (λ i. c.round.ensures i % ((c.tables.ensures ∙ sym c.requires.pair.1) i).depth) in
    subst (λ (z : ℕ). HasLeft z c.args.q s) (sym there) c.requires.out

pub return_bit-requires-clause-held : goal.return_bit-requires-clause-held
return_bit-requires-clause-held g c =
    let s : RecvHeld = c.args.seat.now in let q = c.args.q in let e = c.place-place.result in let b = c.put_all.ensures.seat in
    let there : e ≡ place_of s.view = c.place-place.ensures.value ∙ (λ i. c.round.ensures i % ((c.tables.ensures ∙ sym c.requires.pair.1) i).depth) in
    let shelves : List (Option Room) = set s.shelves q (Some c.put_all.new.shelf) in
    let is : c.put_shelf.new.self ≡ filled_seat q e s b.0 c.lanes-lanes.ensures.kept there b.1 shelves =
    c.put_shelf.ensures.seat ∙ ap (λ (z : RecvHeld). let y : RecvHeld = record z { shelves = set z.shelves q (Some c.put_all.new.shelf) } in y) b.3 in
    subst (λ (z : RecvHeld). HasFilled q z) (sym is) (filled_values q e s b.0 c.lanes-lanes.ensures.kept there b.1 shelves b.2)

pub returns : goal.returns
returns g c =
    let s : RecvHeld = c.args.seat.now in let q = c.args.q in let e = c.place-place.result in let b = c.put_all.ensures.seat in
    let there : e ≡ place_of s.view = c.place-place.ensures.value ∙ (λ i. c.round.ensures i % ((c.tables.ensures ∙ sym c.requires.pair.1) i).depth) in
    let shelves : List (Option Room) = set s.shelves q (Some c.put_all.new.shelf) in
    let is : c.put_shelf.new.self ≡ filled_seat q e s b.0 c.lanes-lanes.ensures.kept there b.1 shelves =
    c.put_shelf.ensures.seat ∙ ap (λ (z : RecvHeld). let y : RecvHeld = record z { shelves = set z.shelves q (Some c.put_all.new.shelf) } in y) b.3 in
    let word : c.return_bit.result ≡ seen s.view (Return (q / 32)) = c.return_bit.ensures.word ∙ ap (λ (z : RecvHeld). seen z.view (Return (q / 32))) is in
    let shelf : c.put_all.new.shelf ≡ record { bufs = []; room = c.args.shelf.room } = λ i. record { bufs = c.put_all.ensures.shelf.0 i; room = c.put_all.ensures.shelf.1 i } in
    c.return_bit.ensures.step ∙ (ap (λ (z : RecvHeld). returned q c.return_bit.result z) is
    ∙ (back_seat q e s b.0 c.lanes-lanes.ensures.kept there b.1 shelves c.return_bit.result word
    ∙ ap (λ (z : Room). let y : RecvHeld = record (returned q (seen s.view (Return (q / 32))) s) { shelves = set s.shelves q (Some z) } in y) shelf))
