use Rattle.std.proofs.Common.{◌≡◌, ℕ, ◌+◌, ◌-◌, ◌%◌, sym, ap, ◌∙◌, subst}
use Rattle.gate_word.specs.Words.{round_in}
use Rattle.part_geometry.specs.Shape.{Shape}
use Rattle.part_tables.specs.Parts.{first_sent}
use Rattle.atomic_table.specs.Seated.{TableId}
use Rattle.pair_rule.specs.Rule.{slot_number}
use Rattle.pair_rule.specs.Seats.{MarkHeld}
use Rattle.pair_rule.specs.Marking.{sent_count, HasWon}
use Rattle.pair_rule.specs.declared.view.View.{View}
use Rattle.pair_core.specs.Core.{IsMarker}
use Rattle.pair_rule.proofs.MarkSeats.{held_of, claim_won}
use Rattle.pair_rule.proofs.pair.Pair.try_claim.Goals as goal

-- the slot of the partition's first cell at the round's place, by the seat's view
by_view : (t g d : Shape) → t ≡ g → d ≡ g → (e k r c p n a : ℕ) → n ≡ slot_number t e c → e ≡ r % t.depth → r ≡ k → c ≡ first_sent t p → a ≡ first_sent t (p + 1)
    → (n ≡ slot_number d (k % d.depth) (first_sent d p)) × (a - c ≡ sent_count d p)
by_view t g d same mine e k r c p n a is place round first after =
    let both : t ≡ d = same ∙ sym mine in (
      is ∙ ((λ j. slot_number t ((place ∙ ap (λ (z : ℕ). z % t.depth) round) j) (first j)) ∙ ap (λ (z : Shape). slot_number z (k % z.depth) (first_sent z p)) both),
      (λ j. after j - first j) ∙ ap (λ (z : Shape). sent_count z p) both,
    )

pub invariant_of-seat : goal.invariant_of-seat
invariant_of-seat g c =
    let seat = c.seat.inside.seat in let first : ℕ = c.seat.inside.first in let v = c.seat.invariant in let p : ℕ = c.args.partition in
    let e = c.try_claim_as-found.ensures.step.0 c.if-found-shown.true in
    let b = by_view c.self.inside.tables c.self.inside.table.shared.key.geometry seat.me.0.geometry c.self.invariant.0 (ap (λ s. s.view.geometry) c.seat.view_is ∙ (c.requires.pair.1 ∙ sym (ap (λ q. q.key.geometry) c.self.view_is)))
    c.place-place.result (round_in c.args.shown) c.round_of.result c.sent-first.result.0 p c.slot_of-seat-inside.result c.sent-first.result.1 c.slot_of-seat-inside.ensures c.place-place.ensures.value c.round_of.ensures.value
    (ap (λ z. z.0) c.sent-first.ensures.value) (ap (λ z. z.1) c.sent-first.ensures.value) in
    let w = claim_won seat.table_id seat.me first v.2 c.try_claim_as-found.new.seat.me c.slot_of-seat-inside.result (c.sent-first.result.1 - c.sent-first.result.0) c.args.shown p c.args.bytes.now
    (ap (λ s. s.out) c.seat.view_is ∙ c.requires.none) b.0 b.1 e.0 e.1.0 e.1.1 e.1.2 e.1.3 in
    (ap (λ z. z.standing) e.0 ∙ v.0, subst (λ (z : View). IsMarker z.number) (sym e.0) v.1, w.0, w.1)

pub returns-then-found-shown-clause-won : goal.returns-then-found-shown-clause-won
returns-then-found-shown-clause-won g c same =
    let seat = c.seat.inside.seat in let first : ℕ = c.seat.inside.first in let v = c.seat.invariant in let p : ℕ = c.args.partition in
    let e = c.try_claim_as-found.ensures.step.0 c.if-found-shown.true in
    let b = by_view c.self.inside.tables c.self.inside.table.shared.key.geometry seat.me.0.geometry c.self.invariant.0 (ap (λ s. s.view.geometry) c.seat.view_is ∙ (c.requires.pair.1 ∙ sym (ap (λ q. q.key.geometry) c.self.view_is)))
    c.place-place.result (round_in c.args.shown) c.round_of.result c.sent-first.result.0 p c.slot_of-seat-inside.result c.sent-first.result.1 c.slot_of-seat-inside.ensures c.place-place.ensures.value c.round_of.ensures.value
    (ap (λ z. z.0) c.sent-first.ensures.value) (ap (λ z. z.1) c.sent-first.ensures.value) in
    let w = claim_won seat.table_id seat.me first v.2 c.try_claim_as-found.new.seat.me c.slot_of-seat-inside.result (c.sent-first.result.1 - c.sent-first.result.0) c.args.shown p c.args.bytes.now
    (ap (λ s. s.out) c.seat.view_is ∙ c.requires.none) b.0 b.1 e.0 e.1.0 e.1.1 e.1.2 e.1.3 in
    subst (λ (z : MarkHeld × TableId). HasWon c.args.shown p c.args.bytes.now z.0 (held_of z.1 c.try_claim_as-found.new.seat.me c.slot_of-seat-inside.result))
    (λ j. (c.seat.view_is j, sym c.try_claim_as-found.ensures.seat.0 j)) w.2
