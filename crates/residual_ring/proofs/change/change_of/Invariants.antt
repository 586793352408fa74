use Rattle.std.proofs.Common.{◌≡◌, pos}
use Rattle.cell_lanes.specs.Change.{IsChange, change_within}
use Rattle.residual_ring.proofs.change.change_of.Given as goal

-- the first rows are compared
abbrev pub invariant-loop-row : goal.invariant-loop-row
invariant-loop-row l = record {
  change : l.most ≡ pos (change_within l.old l.new 0 l.row 0 l.old.cols);
  limits : IsChange l.most;
}
