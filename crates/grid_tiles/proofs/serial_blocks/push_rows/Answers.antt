use Rattle.grid_tiles.specs.Tiles.{whole_row}
use Rattle.grid_tiles.proofs.GridFacts.{rows-more}
use Rattle.grid_tiles.proofs.serial_blocks.push_rows.Goals as goal

pub loop-row-preserved : goal.loop-row-preserved
loop-row-preserved c =
    rows-more (whole_row c.args.plan.now c.args.blocks.now c.args.a) c.args.values.now.items c.loop-row.values.items c.push_row.new.values.items c.loop-row.row c.loop-row.invariant c.in_ok-push_row.ensures
