use Rattle.std.proofs.Common.{◌≡◌}
use Rattle.slot_rows.specs.Lists.{rotated}
use Rattle.slot_rows.proofs.turns.turn_times.Given as goal

abbrev pub invariant-loop : goal.invariant-loop
invariant-loop g l = record {
  table : l.seat.table_id ≡ l.fn.seat.table_id;
  id : l.seat.id ≡ l.fn.seat.id;
  turned : l.seat.me ≡ (l.fn.seat.me.0, rotated l.counter l.fn.seat.me.1);
}
