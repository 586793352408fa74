use Rattle.std.proofs.Common.{◌≡◌, take}
use Rattle.part_send.specs.Many.{AreMarked, AreFew, entries}
use Rattle.part_send.proofs.marker.Marker.pready_list.Given as goal

abbrev pub invariant-loop-p : goal.invariant-loop-p
invariant-loop-p g l = record {
  table : l.self.table ≡ l.fn.self.table;
  geometry : l.self.view.geometry ≡ l.fn.self.view.geometry;
  round : l.marks.round ≡ l.round;
  count : l.marks.count ≡ l.p-index;
  few : AreFew l.marks;
  marked : AreMarked l.round l.fn.self.view (take l.p-index (entries l.fn.self.view.geometry l.parts l.bytes)) l.marks.sent l.self.view;
}
