use Rattle.plain_pair.specs.Sides.{send_side, recv_side}
use Rattle.script_pair.proofs.Holding.{matched_freed, agrees_freed}
use Rattle.script_pair.proofs.held.MatchedPair.free.Goals as goal

pub invariant_of-self : goal.invariant_of-self
invariant_of-self c =
    let i = c.self.invariant in
    rw (c.free.ensures.state, c.free.ensures.answer)
    record {
      send = record { side_is = i.send.side_is; matched = matched_freed c.self.inside.send.state i.send.matched };
      recv = i.recv;
      send_agrees = agrees_freed c.self.inside.send.state (send_side c.self.inside.pair) i.send_agrees;
      recv_agrees = i.recv_agrees;
      room = i.room;
      each = i.each;
      here = i.here;
      known = i.known;
    }

pub invariant_of-self-in-RecvSide : goal.invariant_of-self-in-RecvSide
invariant_of-self-in-RecvSide c =
    let i = c.self.invariant in
    rw (c.free-in-RecvSide.ensures.state, c.free-in-RecvSide.ensures.answer)
    record {
      send = i.send;
      recv = record { side_is = i.recv.side_is; matched = matched_freed c.self.inside.recv.state i.recv.matched };
      send_agrees = i.send_agrees;
      recv_agrees = agrees_freed c.self.inside.recv.state (recv_side c.self.inside.pair) i.recv_agrees;
      room = i.room;
      each = i.each;
      here = i.here;
      known = i.known;
    }
