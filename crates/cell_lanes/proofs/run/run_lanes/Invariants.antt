use Rattle.std.proofs.Common.{◌≡◌, ◌*◌, length}
use Rattle.std.specs.List.{All}
use Rattle.stencil_def.specs.Limits.{IsValue}
use Rattle.stencil_def.specs.Plane.{cell}
use Rattle.stencil_def.specs.Step.{fold_plane}
use Rattle.cell_lanes.specs.Padding.{with_ends, IsPadded}
use Rattle.cell_lanes.proofs.run.run_lanes.Given as goal

abbrev pub invariant-loop-step : goal.invariant-loop-step
invariant-loop-step l = record {
  last_length : length l.last.items ≡ with_ends l.rule l.rows * with_ends l.rule l.cols;
  next_length : length l.next.items ≡ length l.last.items;
  last_values : All IsValue l.last.items;
  next_values : All IsValue l.next.items;
  padded : IsPadded (cell (fold_plane l.grid l.rule l._step)) l.rule l.rows l.cols l.last.items;
}
