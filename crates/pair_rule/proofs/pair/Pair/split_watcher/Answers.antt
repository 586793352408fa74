use Rattle.std.proofs.Common.{rules, ◌≡◌, length, sym, subst}
use Rattle.std.specs.Prelude.{Option}
use Rattle.atomic_table.specs.Table.{Me}
use Rattle.pair_rule.specs.Buf.{Buf}
use Rattle.pair_rule.specs.Seats.{AreLanes}
use Rattle.pair_rule.specs.declared.view.View.{View}
use Rattle.pair_rule.specs.declared.view.Standing.TheVariants.{Seated}
use Rattle.pair_rule.proofs.Core.{laws}
use Rattle.pair_rule.proofs.Splitting.{watcher_splits}
use Rattle.pair_rule.proofs.LanesStay.{lanes_split}
use Rattle.pair_rule.proofs.pair.Pair.split_watcher.Goals as goal

pub split_seat-requires : goal.split_seat-requires
split_seat-requires g c =
    let key = c.self.inside.table.shared.key in let seat = c.from.inside.seat in let i = c.from.invariant in
    (search rules, search rules, watcher_splits g.C.Content.may key (laws key.geometry c.self.invariant.1) seat.id seat.me.0 i.0 i.1)

pub invariant_of-from : goal.invariant_of-from
invariant_of-from g c =
    let from = c.from.inside in let i = c.from.invariant in
    subst (λ (me : Me (Option Buf) View). (me.0.standing ≡ Seated) × (me.0.number ≡ 1) × AreLanes me.0 (length me.1) from.lanes.items
    × (length from.shelves.items ≡ me.0.geometry.recv_parts) × (from.round ≡ me.0.recv.round))
    (sym c.split_seat.ensures.2) (i.0, i.1, lanes_split from.seat.me.0 (length from.seat.me.1) from.lanes.items i.2, i.3, i.4)
