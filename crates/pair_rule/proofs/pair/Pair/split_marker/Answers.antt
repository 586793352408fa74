use Rattle.std.proofs.Common.{rules, sym, subst}
use Rattle.pair_rule.proofs.Core.{laws}
use Rattle.pair_rule.proofs.Splitting.{marker_splits}
use Rattle.pair_rule.proofs.SendViews.{IsSending, send_splits}
use Rattle.pair_rule.proofs.pair.Pair.split_marker.Goals as goal

pub split_seat-requires : goal.split_seat-requires
split_seat-requires g c =
    let key = c.self.inside.table.shared.key in let seat = c.from.inside.seat in let i = c.from.invariant in
    (search rules, search rules, marker_splits g.C.Content.may key (laws key.geometry c.self.invariant.1) seat.id seat.me.0 i.0 i.1 i.3)

pub invariant_of-from : goal.invariant_of-from
invariant_of-from g c =
    let me = c.from.inside.seat.me in let i = c.from.invariant in
    subst (IsSending c.from.inside.round) (sym c.split_seat.ensures.2) (i.0, i.1, i.2, i.3, send_splits me.0 i.4, i.5)
