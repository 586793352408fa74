use Rattle.std.specs.List.{All}
use Rattle.stencil_def.specs.Limits.{IsValue}
use Rattle.stencil_def.specs.Plane.{cell}
use Rattle.cell_lanes.specs.Padding.{RowsAre}
use Rattle.cell_lanes.proofs.padded.copy_rows.Given as goal

abbrev pub invariant-loop-row : goal.invariant-loop-row
invariant-loop-row l = record {
  rows : RowsAre (cell l.grid) l.rule l.grid.cols l.values l.row;
  limits : All IsValue l.values;
}
