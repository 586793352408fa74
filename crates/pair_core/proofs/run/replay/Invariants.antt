use Rattle.std.proofs.Common.{◌≡◌}
use Rattle.pair_core.specs.Shows.{Shows, geometry_of}
use Rattle.pair_core.specs.Replaying.{LeadsTo}
use Rattle.pair_core.proofs.run.replay.Given as goal

abbrev pub invariant-loop-at : goal.invariant-loop-at
invariant-loop-at l = (geometry_of l.state ≡ l.fn.geometry) × LeadsTo l.fn.geometry l.fn.events l.at (Shows l.state)
