use Rattle.std.proofs.Common.{◌∙◌, ap, ◌++◌}
use Rattle.cell_lanes.specs.Block.{own_cells}
use Rattle.rank_task.proofs.GridFacts.{rows-more}
use Rattle.rank_task.proofs.serial_blocks.push_rows.Goals as goal

pub loop-row-preserved : goal.loop-row-preserved
loop-row-preserved c =
    rows-more (own_cells c.args.block.now) c.args.values.now.items c.loop-row.values.items c.extend_from_slice.new.self.items c.loop-row.row c.loop-row.invariant
    (c.in_ok-extend_from_slice.ensures.items ∙ ap (λ xs. c.loop-row.values.items ++ xs) c.own_row.ensures.value)
