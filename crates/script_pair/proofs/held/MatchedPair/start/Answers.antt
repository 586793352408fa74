use Rattle.std.proofs.Common.{◌≡◌, true, sym, subst, ap, ap₂, ◌∙◌}
use Rattle.part_api.specs.States.{Agrees, is_in_use, state_started}
use Rattle.script_pair.proofs.Holding.{held_same, held_started, matched_started}
use Rattle.script_pair.proofs.Keeping.{start_send_same}
use Rattle.part_api.specs.Req.{Req}
use Rattle.script_pair.proofs.held.MatchedPair.start.Goals as goal

pub invariant_of-self : goal.invariant_of-self
invariant_of-self c =
    let i = c.self.invariant in
    let e = c.start_send_plain.ensures in
    let in_use : is_in_use c.self.inside.send.state ≡ true = rw (← c.self.view_is, c.in-SendSide.is) at c.requires in
    held_same _ c.start_send_plain.new.pair c.start_send_plain.new.req c.self.inside.recv _ i
    record {
      send = rw e.state record { side_is = i.send.side_is; matched = matched_started c.start_send_plain.result c.self.inside.send.state i.send.matched };
      recv = i.recv;
      send_agrees = e.agrees;
      recv_agrees = subst (Agrees c.self.inside.recv.state) (sym e.other_side) i.recv_agrees;
    }
    (e.call in_use i.here i.known).1 e.shape (start_send_same i.here)

pub invariant_of-self-in-RecvSide : goal.invariant_of-self-in-RecvSide
invariant_of-self-in-RecvSide c =
    let i = c.self.invariant in
    let e = c.start_recv_plain.ensures in
    let in_use : is_in_use c.self.inside.recv.state ≡ true = rw (← c.self.view_is, c.in-RecvSide.is) at c.requires in
    held_started _ c.start_recv_plain.new.pair c.start_recv_plain.new.req i
    record {
      send = i.send;
      recv = rw e.state record { side_is = i.recv.side_is; matched = matched_started c.start_recv_plain.result c.self.inside.recv.state i.recv.matched };
      send_agrees = subst (Agrees c.self.inside.send.state) (sym e.other_side) i.send_agrees;
      recv_agrees = e.agrees;
    }
    (e.call in_use i.here i.known).1 e.shape

pub returns-in-SendSide-clause-answer : goal.returns-in-SendSide-clause-answer
returns-in-SendSide-clause-answer c =
    let e = c.start_send_plain.ensures in
    let in_use : is_in_use c.self.inside.send.state ≡ true = rw (← c.self.view_is, c.in-SendSide.is) at c.requires in
    rw (← c.self.view_is, c.in-SendSide.is)
    (λ d st.
    let a = e.call in_use d.record_ st.record_ in
    (a.0, record { record_ = a.1; send = ap (λ (r : Req). r.state) e.state ∙ ap₂ state_started a.0 st.send; recv = st.recv }))

pub returns-in-RecvSide-clause-answer : goal.returns-in-RecvSide-clause-answer
returns-in-RecvSide-clause-answer c =
    let e = c.start_recv_plain.ensures in
    let in_use : is_in_use c.self.inside.recv.state ≡ true = rw (← c.self.view_is, c.in-RecvSide.is) at c.requires in
    rw (← c.self.view_is, c.in-RecvSide.is)
    (λ d st.
    let a = e.call in_use d.record_ st.record_ in
    (a.0, record { record_ = a.1; send = st.send; recv = ap (λ (r : Req). r.state) e.state ∙ ap₂ state_started a.0 st.recv }))
