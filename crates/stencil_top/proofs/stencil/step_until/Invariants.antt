use Rattle.std.proofs.Common.{◌≡◌, true}
use Rattle.cell_lanes.proofs.StopFacts.{IsRun}
use Rattle.rank_task.specs.Ranks.{ranks_after}
use Rattle.stencil_top.proofs.stencil.step_until.Given as goal

-- so many steps were made, and each changed a cell by more
abbrev pub invariant-loop-made : goal.invariant-loop-made
invariant-loop-made l = record {
  ranks : l.ranks ≡ ranks_after l.fn.ranks l.made;
  run : IsRun l.fn.ranks.grid l.fn.ranks.rule l.until l.made true;
}
