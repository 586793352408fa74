use Rattle.std.proofs.Common.{◌≡◌}
use Rattle.part_tables.specs.Parts.{first_sent}
use Rattle.pair_rule.specs.Marking.{sent_count}
use Rattle.part_send.proofs.Filling.{AreSoFar}
use Rattle.part_send.proofs.fill.fill.Given as goal

abbrev pub invariant-loop-cell : goal.invariant-loop-cell
invariant-loop-cell g l = record {
  seat : l.seat ≡ record l.fn.seat { out = l.seat.out };
  filled : AreSoFar l.fn.seat.view.geometry l.round (first_sent l.fn.seat.view.geometry l.partition) l.cell (sent_count l.fn.seat.view.geometry l.partition) l.bytes l.seat.out;
}
