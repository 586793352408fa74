use Rattle.part_geometry.specs.Pieces.{first_part}
use Rattle.pair_core.proofs.StateTables.{table_more}
use Rattle.pair_core.proofs.tables.first_parts.Goals as goal

pub loop-i-preserved : goal.loop-i-preserved
loop-i-preserved c = table_more (first_part c.args.geometry) c.loop-i.i _ _ _ c.loop-i.invariant c.first_part.ensures.value c.in_ok-push.ensures.items
