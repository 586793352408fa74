use Rattle.std.proofs.Common.{refl, false}
use Rattle.slot_rows.specs.declared.lane.Lane.{Lane}
use Rattle.slot_rows.proofs.Lanes.{flags_set}
use Rattle.slot_rows.proofs.passes.set_flags.Goals as goal

abbrev none : Lane
none = record { first = 0; count = 0; taken = false; out = false }

pub returns : goal.returns
returns c = flags_set c.args.taken c.args.out c.args.at c.args.lanes.now _ none c.requires refl
