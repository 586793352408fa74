use Rattle.std.proofs.Common.{◌≡◌, take}
use Rattle.std.specs.List.{flat_map}
use Rattle.rank_task.specs.Ranks.{own_values}
use Rattle.rank_task.proofs.serial_blocks.all_rows.Given as goal

abbrev pub invariant-loop-block : goal.invariant-loop-block
invariant-loop-block l = l.values.items ≡ flat_map own_values (take l.block-index l.blocks)
