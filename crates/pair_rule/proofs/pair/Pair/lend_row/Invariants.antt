use Rattle.std.proofs.Common.{◌≡◌, ◌≤◌, List, Option, Some, map, take, drop, length}
use Rattle.slot_rows.specs.Lists.{row}
use Rattle.pair_rule.specs.Buf.{Buf}
use Rattle.pair_rule.specs.Parts.{first_slot, spot, AreLeft, with_part}
use Rattle.pair_rule.proofs.pair.Pair.lend_row.Given as goal

abbrev pub invariant-loop-index : goal.invariant-loop-index
invariant-loop-index g l = record {
  table : l.seat.table_id ≡ l.fn.seat.table_id;
  id : l.seat.id ≡ l.fn.seat.id;
  slots : (left : List (Option Buf)) × AreLeft l.shelf.bufs left × (l.seat.me ≡ with_part l.lanes l.place l.q left l.fn.seat.me);
  size : length l.seat.me.1 ≡ length l.fn.seat.me.1;
  count : length l.shelf.bufs ≡ l.index;
  room : l.fn.shelf.room ≤ l.shelf.room;
  bufs : row (first_slot l.fn.seat.me.0.geometry l.place l.q) (map Some l.shelf.bufs) ≡ take l.index (drop (spot l.lanes l.q) l.fn.seat.me.1);
}
