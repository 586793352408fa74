use Rattle.std.proofs.Common.{◌≡◌}
use Rattle.part_send.proofs.test.shut_claims.Given as goal

abbrev pub invariant-loop-c : goal.invariant-loop-c
invariant-loop-c g l = record {
  table : l.seat.table ≡ l.fn.seat.table;
  number : l.seat.view.number ≡ 0;
  view : l.seat.view ≡ record l.fn.seat.view { seen = l.seat.view.seen; looks = l.seat.view.looks; send = record l.fn.seat.view.send { shut = l.c } };
  none : l.c ≡ 0 → l.seat.view ≡ l.fn.seat.view;
}
