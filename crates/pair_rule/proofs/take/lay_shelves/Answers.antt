use Rattle.std.proofs.Common.{◌≡◌, ℕ, ◌-◌, ◌++◌, ◌∷◌, [], Option, Some, ap, sym, ◌∙◌, arith}
use Rattle.std.proofs.lemmas.List.FromFn.{map-range_with_len_more}
use Rattle.pair_rule.specs.Seats.{Room}
use Rattle.pair_rule.specs.Parts.{first_shelf}
use Rattle.pair_rule.proofs.take.lay_shelves.Goals as goal

pub loop-q-preserved : goal.loop-q-preserved
loop-q-preserved c =
    let t = c.args.tables.now in let q : ℕ = c.loop-q.q in let r = c.received-first.ensures.value in let made = c.in_ok-with_room.ensures in
    let room = made.1 ∙ ap (λ z. z.1 - z.0) r in
    let shelf : ◌≡◌ {A = Option Room} (Some c.in_ok-with_room.field-0) (first_shelf t q) = λ i. Some record { bufs = made.0 i; room = room i } in
    record { items = c.in_ok-push.ensures.items ∙ ((λ i. c.loop-q.invariant.items i ++ shelf i ∷ []) ∙ sym (map-range_with_len_more (first_shelf t) 0 q q (omega arith))) }
