use Rattle.std.proofs.Common.{[]}
use Rattle.grid_tiles.specs.Tiles.{whole_rows}
use Rattle.grid_tiles.proofs.GridFacts.{rows-more}
use Rattle.grid_tiles.proofs.serial_blocks.all_rows.Goals as goal

pub loop-a-preserved : goal.loop-a-preserved
loop-a-preserved c =
    rows-more (whole_rows c.args.plan.now c.args.blocks.now) [] c.loop-a.values.items c.push_rows.new.values.items c.loop-a.a c.loop-a.invariant c.in_ok-push_rows.ensures
