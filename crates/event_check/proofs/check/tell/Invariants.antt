use Rattle.std.proofs.Common.{◌≡◌}
use Rattle.event_check.specs.Walking.{StandsFor, geometry_of}
use Rattle.event_check.specs.Telling.{Told}
use Rattle.event_check.proofs.check.tell.Given as goal

abbrev pub invariant-loop-at : goal.invariant-loop-at
invariant-loop-at l = record {
  geometry : geometry_of l.walk ≡ l.fn.geometry;
  told : Told l.fn.geometry l.fn.events l.at (StandsFor l.walk) l.text.items;
}
