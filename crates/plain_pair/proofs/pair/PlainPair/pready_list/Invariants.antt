use Rattle.std.proofs.Common.{◌≡◌}
use Rattle.plain_pair.specs.Growing.{IsCounted}
use Rattle.plain_pair.specs.Sides.{SameSides}
use Rattle.plain_pair.proofs.ManyMarks.{AtEntry}
use Rattle.plain_pair.proofs.pair.PlainPair.pready_list.Given as goal

abbrev pub invariant-loop-p : goal.invariant-loop-p
invariant-loop-p l = record {
  shape : l.self.shape ≡ l.fn.self.shape;
  sides : SameSides l.fn.self l.self;
  start : l.p-index ≡ 0 → l.self ≡ l.fn.self;
  round : l.marks.round ≡ l.round;
  count : l.marks.count ≡ l.p-index;
  counts : IsCounted l.self l.marks;
  at : AtEntry l.fn.self l.self l.marks l.round l.parts l.bytes l.p-index;
}
