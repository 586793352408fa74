use Rattle.std.proofs.Common.{◌+◌, ◌*◌}
use Rattle.cell_lanes.proofs.ReadyFacts.{IsReadyBelow}
use Rattle.cell_lanes.proofs.weights.LaneWeights.new.Given as goal

abbrev pub invariant-loop-a : goal.invariant-loop-a
invariant-loop-a l = IsReadyBelow l.weights l.lanes (l.a * l.side)

abbrev pub invariant-loop-b : goal.invariant-loop-b
invariant-loop-b l = IsReadyBelow l.weights l.lanes (l.a * l.side + l.b)
