use Rattle.std.proofs.Common.{◌-◌, ◌≤◌, length}
use Rattle.cell_lanes.proofs.WindowFacts.{DoneBelow}
use Rattle.cell_lanes.proofs.sums.sums_at_reach.Given as goal

abbrev pub invariant-loop-out : goal.invariant-loop-out
invariant-loop-out l = (l.x ≤ length l.out) × DoneBelow l.weights l.window l.width l.out l.x

abbrev pub decreases-loop-out : goal.decreases-loop-out
decreases-loop-out l = length l.out - l.x

abbrev pub invariant-loop-rest : goal.invariant-loop-rest
invariant-loop-rest l = DoneBelow l.weights l.window l.width l.out l.rest
