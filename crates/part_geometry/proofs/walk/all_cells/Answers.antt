use Rattle.part_geometry.proofs.Walks.{pushed}
use Rattle.part_geometry.proofs.walk.all_cells.Goals as goal

pub loop-cell-preserved : goal.loop-cell-preserved
loop-cell-preserved c =
    let inv = c.loop-cell.invariant in
    pushed _ _ _ _ _ _ c.in-Some.ensures.cell c.advance.ensures.walk inv.0 inv.2 c.in_ok-push.ensures.items
