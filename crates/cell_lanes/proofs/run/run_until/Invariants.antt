use Rattle.std.proofs.Common.{◌≡◌, ◌*◌, ◌-◌, ◌≤◌, length}
use Rattle.std.specs.List.{All}
use Rattle.stencil_def.specs.Limits.{IsValue}
use Rattle.stencil_def.specs.Plane.{cell}
use Rattle.stencil_def.specs.Step.{fold_plane}
use Rattle.cell_lanes.specs.Padding.{with_ends, IsPadded}
use Rattle.cell_lanes.proofs.StopFacts.{IsRun}
use Rattle.cell_lanes.proofs.run.run_until.Given as goal

abbrev pub invariant-loop-goes_on : goal.invariant-loop-goes_on
invariant-loop-goes_on l = record {
  within : l.made ≤ l.steps;
  last_length : length l.last.items ≡ with_ends l.rule l.rows * with_ends l.rule l.cols;
  next_length : length l.next.items ≡ length l.last.items;
  last_values : All IsValue l.last.items;
  next_values : All IsValue l.next.items;
  padded : IsPadded (cell (fold_plane l.grid l.rule l.made)) l.rule l.rows l.cols l.last.items;
  run : IsRun l.grid l.rule l.fn.until l.made l.goes_on;
}

abbrev pub decreases-loop-goes_on : goal.decreases-loop-goes_on
decreases-loop-goes_on l = l.steps - l.made
