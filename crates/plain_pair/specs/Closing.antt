-- What a closed pair tells.
use Rattle.plain_pair.specs.declared.pair.PlainClosed.{PlainClosed}
use Rattle.part_geometry.specs.Shape.{Shape}
use Rattle.plain_pair.specs.Record.{Record, send_round, pieces_out}

-- both sides' rounds, the released one, and how many pieces are out over all rounds
abbrev pub closed_answer : Shape → Record → PlainClosed
closed_answer g r = record {
  send_round = send_round r;
  recv_round = r.received;
  released = r.released;
  pieces_out = pieces_out g r;
}
