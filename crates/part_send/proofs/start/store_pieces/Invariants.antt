use Rattle.std.proofs.Common.{◌≡◌, ◌+◌, ◌≤◌}
use Rattle.gate_word.specs.Words.{round_in}
use Rattle.pair_core.specs.Names.{Release}
use Rattle.pair_rule.specs.Views.{seen}
use Rattle.part_send.specs.Ends.{pieces_stored}
use Rattle.part_send.proofs.start.store_pieces.Given as goal

abbrev pub invariant-loop-i : goal.invariant-loop-i
invariant-loop-i g l = record {
  seat : l.seat ≡ record l.fn.seat { view = pieces_stored l.round l.i l.fn.seat.view };
  number : l.seat.view.number ≡ 0;
  geometry : l.seat.view.geometry ≡ l.fn.seat.view.geometry;
  room : l.round ≤ round_in (seen l.seat.view Release) + l.fn.seat.view.geometry.depth;
  markers : l.seat.view.send.markers ≡ l.fn.seat.view.send.markers;
  none : l.i ≡ 0 → l.seat.view.send ≡ l.fn.seat.view.send;
  some : 1 ≤ l.i → l.seat.view.send ≡ record { round = l.round; pieces = l.i; opened = 0; shut = 0; markers = l.fn.seat.view.send.markers };
}
