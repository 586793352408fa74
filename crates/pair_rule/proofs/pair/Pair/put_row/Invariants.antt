use Rattle.std.proofs.Common.{◌≡◌, ◌+◌, List, map, length, Some}
use Rattle.slot_rows.specs.Lists.{overlaid}
use Rattle.part_tables.specs.Parts.{first_received}
use Rattle.pair_rule.specs.Buf.{Buf}
use Rattle.pair_rule.specs.Seats.{cells_of}
use Rattle.pair_rule.specs.Steps.{AreOf}
use Rattle.pair_rule.specs.Parts.{first_slot, spot}
use Rattle.pair_rule.proofs.pair.Pair.put_row.Given as goal

-- the slots behind those of the shelf's buffers have the buffers `bufs`
abbrev pub invariant-loop-shelf : goal.invariant-loop-shelf
invariant-loop-shelf g l = let d = l.fn.seat.me.0 in let k = length l.shelf.bufs in record {
  table : l.seat.table_id ≡ l.fn.seat.table_id;
  id : l.seat.id ≡ l.fn.seat.id;
  slots : (bufs : List Buf) × (k + length bufs ≡ cells_of d.geometry l.q) × AreOf d.geometry d.recv.round (first_received d.geometry l.q + k) bufs
      × (l.seat.me ≡ (d, overlaid (spot l.lanes l.q + k) (first_slot d.geometry l.place l.q + k) (map Some bufs) l.fn.seat.me.1));
  size : length l.seat.me.1 ≡ length l.fn.seat.me.1;
  room : l.shelf.room ≡ l.fn.shelf.room;
  of : AreOf d.geometry d.recv.round (first_received d.geometry l.q) l.shelf.bufs;
}

abbrev pub decreases-loop-shelf : goal.decreases-loop-shelf
decreases-loop-shelf g l = length l.shelf.bufs
