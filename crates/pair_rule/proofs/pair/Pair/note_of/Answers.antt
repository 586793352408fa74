use Rattle.std.proofs.Common.{rules}
use Rattle.pair_rule.proofs.Core.{laws}
use Rattle.pair_rule.proofs.Splitting.{note_splits}
use Rattle.pair_rule.proofs.pair.Pair.note_of.Goals as goal

pub split_seat-requires : goal.split_seat-requires
split_seat-requires g c =
    let key = c.self.inside.table.shared.key in let seat = c.args.place.now in
    (search rules, search rules, note_splits g.C.Content.may key (laws key.geometry c.self.invariant.1) seat.id seat.me.0 c.requires.live)
