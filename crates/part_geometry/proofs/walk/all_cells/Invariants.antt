use Rattle.std.proofs.Common.{◌≡◌, ◌-◌, ◌≤◌, map}
use Rattle.std.specs.List.{range_with_len}
use Rattle.part_geometry.specs.Cells.{cells}
use Rattle.part_geometry.specs.Walk.{cell_at}
use Rattle.part_geometry.proofs.walk.all_cells.Given as goal

abbrev pub invariant-loop-cell : goal.invariant-loop-cell
invariant-loop-cell l =
    (l.walk.shape ≡ l.fn.geometry) × (l.walk.place ≤ cells l.fn.geometry) × (l.all.items ≡ map (cell_at l.fn.geometry) (range_with_len 0 l.walk.place))

abbrev pub decreases-loop-cell : goal.decreases-loop-cell
decreases-loop-cell l = cells l.fn.geometry - l.walk.place
