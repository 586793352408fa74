use Rattle.part_geometry.specs.Pieces.{need_count}
use Rattle.pair_core.proofs.StateTables.{table_more}
use Rattle.pair_core.proofs.tables.part_counts.Goals as goal

pub loop-i-preserved : goal.loop-i-preserved
loop-i-preserved c = table_more (need_count c.args.geometry) c.loop-i.i _ _ _ c.loop-i.invariant c.part_count.ensures c.in_ok-push.ensures.items
