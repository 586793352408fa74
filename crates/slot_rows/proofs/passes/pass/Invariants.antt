use Rattle.std.proofs.Common.{◌≡◌}
use Rattle.slot_rows.specs.Lists.{rotated}
use Rattle.slot_rows.specs.Lanes.{place}
use Rattle.slot_rows.proofs.passes.pass.Given as goal

abbrev pub invariant-loop-lane : goal.invariant-loop-lane
invariant-loop-lane g l = record {
  table : l.seat.table_id ≡ l.fn.seat.table_id;
  id : l.seat.id ≡ l.fn.seat.id;
  turned : l.seat.me ≡ (l.fn.seat.me.0, rotated (place l.fn.lanes l.lane-index) l.fn.seat.me.1);
}
