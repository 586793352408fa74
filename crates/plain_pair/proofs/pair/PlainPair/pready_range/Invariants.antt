use Rattle.std.proofs.Common.{◌≡◌}
use Rattle.plain_pair.specs.Growing.{IsCounted}
use Rattle.plain_pair.specs.Many.{range_parts}
use Rattle.plain_pair.specs.Sides.{SameSides}
use Rattle.plain_pair.proofs.ManyMarks.{AtEntry}
use Rattle.plain_pair.proofs.pair.PlainPair.pready_range.Given as goal

abbrev pub invariant-loop-i : goal.invariant-loop-i
invariant-loop-i l = record {
  shape : l.self.shape ≡ l.fn.self.shape;
  sides : SameSides l.fn.self l.self;
  start : l.i ≡ 0 → l.self ≡ l.fn.self;
  round : l.marks.round ≡ l.round;
  count : l.marks.count ≡ l.i;
  counts : IsCounted l.self l.marks;
  at : AtEntry l.fn.self l.self l.marks l.round (range_parts l.low l.high) l.bytes l.i;
}
