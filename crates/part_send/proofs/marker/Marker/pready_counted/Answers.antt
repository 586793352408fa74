use Rattle.std.proofs.Common.{◌≡◌, ℕ, ◌-◌, ap, ◌∙◌, sym, subst}
use Rattle.part_geometry.specs.Shape.{Shape}
use Rattle.pair_rule.specs.Seats.{Held}
use Rattle.part_send.specs.Marking.{IsRight, HasMarked}
use Rattle.part_send.proofs.Kept.{free_still, free_again, laid_told}
use Rattle.part_send.proofs.Marked.{has_marked}
use Rattle.part_send.proofs.marker.Marker.pready_counted.Goals as goal

pub returns-clause-answer : goal.returns-clause-answer
returns-clause-answer g c =
    let s = c.self.inside.seat in let n : ℕ = c.claim.new.steps - c.args.steps.now in
    let same : c.geometry.result ≡ s.view.geometry =
    c.geometry.ensures.value ∙ (sym c.requires.pair.1 ∙ sym (ap (λ (z : Held). z.view.geometry) c.self.view_is)) in
    let right : IsRight s.view.geometry c.args.partition c.args.bytes.now = subst (λ (z : Shape). IsRight z c.args.partition c.args.bytes.now) same c.in_ok-refuse.ensures in
    subst (λ (z : Held). HasMarked z.view c.lay-sent.new.seat.view c.args.round c.args.partition c.args.bytes.now n
    record { round = c.args.round; partition = c.args.partition; sent = c.lay-sent.result }) c.self.view_is
    (has_marked s c.claim.new.seat c.fill.new.seat c.lay-sent.new.seat c.args.round c.args.partition c.args.bytes.now n c.lay-sent.result c.self.invariant.0 right
    c.in_ok-claim.ensures.answer c.fill.ensures.seat c.lay-sent.ensures.laid c.lay-sent.ensures.sent)

pub invariant_of-self : goal.invariant_of-self
invariant_of-self g c =
    let refused = c.in_err-claim.ensures.answer in (
      free_still c.self.inside.seat c.claim.new.seat c.args.round c.args.partition c.args.bytes.now (c.claim.new.steps - c.args.steps.now) c.in_err-claim.field-0.0
          c.self.invariant.0 refused.0 refused.1,
      c.claim.ensures.told,
    )

pub invariant_of-self-2 : goal.invariant_of-self-2
invariant_of-self-2 g c = (
  free_again c.self.inside.seat c.claim.new.seat c.fill.new.seat c.lay-sent.new.seat c.args.round c.args.partition c.args.bytes.now (c.claim.new.steps - c.args.steps.now)
      c.self.invariant.0 c.in_ok-claim.ensures.answer c.fill.ensures.seat c.lay-sent.ensures.laid c.lay-sent.ensures.out c.lay-sent.ensures.wide,
  laid_told c.claim.new.seat c.fill.new.seat c.lay-sent.new.seat c.claim.new.told.number c.claim.new.told.word c.claim.ensures.told c.fill.ensures.seat c.lay-sent.ensures.laid,
)
