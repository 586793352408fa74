use Rattle.std.proofs.Common.{◌≡◌}
use Rattle.stencil_def.specs.Plane.{Plane, IsPlane, cell}
use Rattle.cell_lanes.specs.Padding.{IsPadded}
use Rattle.cell_lanes.proofs.PaddedFacts.{TakenBelow}
use Rattle.cell_lanes.proofs.padded.middle.Given as goal

abbrev pub invariant-loop-row : goal.invariant-loop-row
invariant-loop-row l = record {
  rows : l.grid.rows ≡ l.rows;
  cols : l.grid.cols ≡ l.cols;
  plane : IsPlane l.grid;
  taken : (g : Plane) → g.cols ≡ l.cols → IsPadded (cell g) l.rule l.rows l.cols l.values → TakenBelow g l.grid l.row;
}
