use Rattle.std.proofs.Common.{rules, ◌≡◌, ap, ◌∙◌, sym, subst}
use Rattle.gate_word.proofs.Laws.{joins}
use Rattle.pair_rule.proofs.Core.{laws}
use Rattle.pair_rule.proofs.Joining.{marker_joins}
use Rattle.pair_core.specs.Names.{Claim}
use Rattle.pair_rule.specs.First.{with_marker_back}
use Rattle.pair_rule.specs.Views.{saw}
use Rattle.pair_rule.specs.Steps.{Seat}
use Rattle.pair_rule.proofs.SendViews.{IsSending, send_joins, send_looks_claim}
use Rattle.pair_rule.proofs.pair.Pair.join_marker.Goals as goal

pub join_seat-requires : goal.join_seat-requires
join_seat-requires g c =
    let key = c.self.inside.table.shared.key in let seat = c.into.inside.seat in let i = c.into.invariant in
    let other = c.into_place.result in let live = c.into_place.ensures.live in let me = ap (λ m. m.0) c.into_place.ensures.place.1 in
    (search rules, search rules, search rules, search rules, marker_joins g.C.Content.may key (laws key.geometry c.self.invariant.1) joins seat.id seat.me.0 other.id other.me.0 i.0 i.1 i.3 (search rules) (search rules) (search rules))

pub invariant_of-into : goal.invariant_of-into
invariant_of-into g c =
    let me = c.into.inside.seat.me in let i = c.into.invariant in let both = with_marker_back me.0 c.into_place.result.me.0 in
    let is : c.load_claim_as.new.seat.me ≡ (saw (Claim 0) c.load_claim_as.result both, me.1) =
    c.load_claim_as.ensures.step ∙ ap (λ (z : Seat). let y : Seat = (saw (Claim 0) c.load_claim_as.result z.0, z.1) in y) c.join_seat.ensures.2 in
    subst (IsSending c.into.inside.round) (sym is)
    (i.0, i.1, i.2, i.3, send_looks_claim both 0 c.load_claim_as.result (search rules) (send_joins me.0 c.into_place.result.me.0 i.4), i.5)
