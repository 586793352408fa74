use Rattle.std.proofs.Common.{arith}
use Rattle.part_tables.proofs.Facts.{cell-inside}
use Rattle.pair_rule.proofs.first.cell_buf.Goals as goal

pub overflow_sub-count : goal.overflow_sub-count
overflow_sub-count c =
    let v = c.geometry-geometry.ensures.limits in
    let cell = cell-inside c.args.tables.now v c.args.c c.requires in
    rw c.cell-cell.ensures (let h = cell.rises in omega arith)
