use Rattle.std.proofs.Common.{◌≡◌, pos}
use Rattle.std.specs.List.{All}
use Rattle.stencil_def.specs.Limits.{IsValue}
use Rattle.stencil_def.specs.Plane.{Plane, cell}
use Rattle.stencil_def.specs.Step.{new_cell, next_plane}
use Rattle.cell_lanes.specs.Change.{IsChange, change_within}
use Rattle.cell_lanes.specs.Padding.{RowsAre, IsPadded}
use Rattle.cell_lanes.proofs.padded.next_rows_changed.Given as goal

-- the first rows are done, and compared
abbrev pub invariant-loop-row : goal.invariant-loop-row
invariant-loop-row l = record {
  rows : (g : Plane) → g.rows ≡ l.rows → g.cols ≡ l.cols → IsPadded (cell g) l.rule l.rows l.cols l.values → RowsAre (new_cell g l.rule) l.rule l.cols l.next l.row;
  change : (g : Plane) → g.rows ≡ l.rows → g.cols ≡ l.cols → IsPadded (cell g) l.rule l.rows l.cols l.values
      → l.most ≡ pos (change_within g (next_plane g l.rule) 0 l.row 0 l.cols);
  range : IsChange l.most;
  limits : All IsValue l.next;
}
