use Rattle.std.proofs.Common.{◌≡◌, ◌/◌, ◌%◌, set, None, sym, ap, ◌∙◌, subst, arith, refl}
use Rattle.pair_core.specs.Names.{Take}
use Rattle.pair_rule.specs.Views.{seen}
use Rattle.pair_rule.specs.Seats.{RecvHeld, Room}
use Rattle.pair_rule.specs.Parts.{HasTaken, place_of}
use Rattle.part_recv.proofs.Lending.{shelf_one, taken_flags, taken_values, lent_seat, lent_are}
use Rattle.part_recv.proofs.parts.take_part.Goals as goal

pub lend_all-requires-clause-out : goal.lend_all-requires-clause-out
lend_all-requires-clause-out g c =
    let may = g.C.Content.may c.args.pair.now.key.tag in
    let s : RecvHeld = record c.args.seat.now { shelves = set c.args.seat.now.shelves c.args.q None } in
    let h : HasTaken may c.args.q c.take_bit.result s c.take_bit.new.seat = subst (λ (z : RecvHeld). HasTaken may c.args.q c.take_bit.result z c.take_bit.new.seat) c.take_shelf-shelf.ensures.seat c.take_bit.ensures.step in
    taken_flags may c.args.q (place_of s.view) c.take_bit.result s c.take_bit.new.seat c.lanes-lanes.ensures.kept refl h c.requires.allowed.1

pub lend_all-requires-clause-held : goal.lend_all-requires-clause-held
lend_all-requires-clause-held g c =
    let may = g.C.Content.may c.args.pair.now.key.tag in
    let s : RecvHeld = record c.args.seat.now { shelves = set c.args.seat.now.shelves c.args.q None } in
    let h : HasTaken may c.args.q c.take_bit.result s c.take_bit.new.seat = subst (λ (z : RecvHeld). HasTaken may c.args.q c.take_bit.result z c.take_bit.new.seat) c.take_shelf-shelf.ensures.seat c.take_bit.ensures.step in
    let there : c.place-place.result ≡ place_of s.view = c.place-place.ensures.value ∙ (λ i. c.round.ensures i % ((c.tables.ensures ∙ sym c.requires.pair.1) i).depth) in
    (h.bufs, taken_values may c.args.q c.place-place.result c.take_bit.result s c.take_bit.new.seat c.lanes-lanes.ensures.kept there h)

pub returns : goal.returns
returns g c =
    let may = g.C.Content.may c.args.pair.now.key.tag in
    let s : RecvHeld = record c.args.seat.now { shelves = set c.args.seat.now.shelves c.args.q None } in
    let h : HasTaken may c.args.q c.take_bit.result s c.take_bit.new.seat = subst (λ (z : RecvHeld). HasTaken may c.args.q c.take_bit.result z c.take_bit.new.seat) c.take_shelf-shelf.ensures.seat c.take_bit.ensures.step in
    let there : c.place-place.result ≡ place_of s.view = c.place-place.ensures.value ∙ (λ i. c.round.ensures i % ((c.tables.ensures ∙ sym c.requires.pair.1) i).depth) in
    let word : c.take_bit.result ≡ seen s.view (Take (c.args.q / 32)) = c.take_bit.ensures.word ∙ ap (λ (z : RecvHeld). seen z.view (Take (c.args.q / 32))) c.take_shelf-shelf.ensures.seat in
    record {
      are = lent_are may c.args.q c.place-place.result c.take_bit.result s c.take_bit.new.seat c.lanes-lanes.ensures.kept there h c.lend_all.new.shelf c.lend_all.ensures.shelf.0;
      room =
          let one = ap (λ (z : Room). z.room) (shelf_one _ _ (sym c.take_shelf-shelf.ensures.shelf ∙ c.requires.shelf.there)) in
          let grows = c.lend_all.ensures.shelf.1 in let wide = c.requires.shelf.wide in omega arith;
      left = c.lend_all.ensures.seat.0;
      leaves = c.lend_all.ensures.seat.1;
      seat = lent_seat may c.args.q c.place-place.result c.take_bit.result s c.take_bit.new.seat c.lanes-lanes.ensures.kept there h c.lend_all.new.shelf c.lend_all.ensures.seat.0 c.lend_all.new.seat c.lend_all.ensures.seat.2 c.lend_all.ensures.seat.1 c.lend_all.ensures.shelf.0 word;
    }
