use Rattle.std.proofs.Common.{◌≡◌, take}
use Rattle.part_send.specs.Many.{AreMarked, AreFew, entries, range_parts}
use Rattle.part_send.proofs.marker.Marker.pready_range.Given as goal

abbrev pub invariant-loop-i : goal.invariant-loop-i
invariant-loop-i g l = record {
  table : l.self.table ≡ l.fn.self.table;
  geometry : l.self.view.geometry ≡ l.fn.self.view.geometry;
  round : l.marks.round ≡ l.round;
  count : l.marks.count ≡ l.i;
  few : AreFew l.marks;
  marked : AreMarked l.round l.fn.self.view (take l.i (entries l.fn.self.view.geometry (range_parts l.low l.high) l.bytes)) l.marks.sent l.self.view;
}
