use Rattle.std.proofs.Common.{◌≡◌}
use Rattle.std.specs.List.{All}
use Rattle.stencil_def.specs.Limits.{IsValue}
use Rattle.stencil_def.specs.Plane.{Plane, cell}
use Rattle.stencil_def.specs.Step.{new_cell}
use Rattle.cell_lanes.specs.Padding.{RowsAre, IsPadded}
use Rattle.cell_lanes.proofs.padded.next_rows.Given as goal

abbrev pub invariant-loop-row : goal.invariant-loop-row
invariant-loop-row l = record {
  rows : (g : Plane) → g.rows ≡ l.rows → g.cols ≡ l.cols → IsPadded (cell g) l.rule l.rows l.cols l.values → RowsAre (new_cell g l.rule) l.rule l.cols l.next l.row;
  limits : All IsValue l.next;
}
