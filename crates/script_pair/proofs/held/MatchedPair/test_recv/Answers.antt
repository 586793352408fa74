use Rattle.std.proofs.Common.{◌≡◌, true, sym, subst, Ok, ap, ap₂, ◌∙◌}
use Rattle.part_api.specs.States.{Agrees, is_in_use, state_received}
use Rattle.script_pair.proofs.Holding.{held_tested, matched_received}
use Rattle.part_api.specs.Req.{Req}
use Rattle.plain_pair.specs.Moves.{test_recv_answer}
use Rattle.script_pair.proofs.held.MatchedPair.test_recv.Goals as goal

pub invariant_of-self : goal.invariant_of-self
invariant_of-self c =
    let i = c.self.invariant in
    let e = c.test_recv_plain.ensures in
    let used : is_in_use c.self.inside.recv.state ≡ true = rw (← c.self.view_is) at c.requires in
    held_tested _ c.test_recv_plain.new.pair c.test_recv_plain.new.req i
    record {
      send = i.send;
      recv = rw e.state record { side_is = i.recv.side_is; matched = matched_received c.test_recv_plain.result c.self.inside.recv.state i.recv.matched };
      send_agrees = subst (Agrees c.self.inside.send.state) (sym e.other_side) i.send_agrees;
      recv_agrees = e.agrees;
    }
    (e.call used i.here i.known).1 e.shape

pub returns-clause-answer : goal.returns-clause-answer
returns-clause-answer c =
    let e = c.test_recv_plain.ensures in
    let used : is_in_use c.self.inside.recv.state ≡ true = rw (← c.self.view_is) at c.requires in
    rw (← c.self.view_is)
    (λ d st.
    let a = e.call used d.record_ st.record_ in
    let is : Ok c.in-Ok.answer ≡ Ok (test_recv_answer c.self.inside.pair.shape d.record_) = sym c.in-Ok.is ∙ a.0 in
    (cc, record { record_ = a.1; send = st.send; recv = ap (λ (r : Req). r.state) e.state ∙ ap₂ state_received a.0 st.recv }))
