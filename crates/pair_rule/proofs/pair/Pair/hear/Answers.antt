use Rattle.std.proofs.Common.{rules, ap, ◌∙◌}
use Rattle.gate_word.proofs.Laws.{joins}
use Rattle.pair_rule.specs.declared.view.View.{View}
use Rattle.pair_rule.proofs.Core.{laws}
use Rattle.pair_rule.proofs.Joining.{hears}
use Rattle.pair_rule.proofs.pair.Pair.hear.Goals as goal

pub join_seat-requires : goal.join_seat-requires
join_seat-requires g c =
    let key = c.self.inside.table.shared.key in let seat = c.args.place.now in
    let other = c.into_place.result in let live = c.into_place.ensures.live in let me = ap (λ m. m.0) c.into_place.ensures.place.1 in
    (search rules, search rules, search rules, search rules, hears g.C.Content.may key (laws key.geometry c.self.invariant.1) joins seat.id seat.me.0 other.id other.me.0 c.requires.live (ap (λ (d : View). d.standing) me ∙ live))
