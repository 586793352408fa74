use Rattle.std.proofs.Common.{◌≡◌, true, sym, subst, Ok, ap, ap₂, ◌∙◌}
use Rattle.part_api.specs.States.{Agrees, is_in_use, state_sent}
use Rattle.plain_pair.specs.Moves.{test_send_answer}
use Rattle.script_pair.proofs.Holding.{held_same, matched_sent}
use Rattle.script_pair.proofs.Keeping.{sent_same}
use Rattle.part_api.specs.Req.{Req}
use Rattle.script_pair.proofs.held.MatchedPair.test_send.Goals as goal

pub invariant_of-self : goal.invariant_of-self
invariant_of-self c =
    let i = c.self.invariant in
    let e = c.test_send_plain.ensures in
    let used : is_in_use c.self.inside.send.state ≡ true = rw (← c.self.view_is) at c.requires in
    held_same _ c.test_send_plain.new.pair c.test_send_plain.new.req c.self.inside.recv _ i
    record {
      send = rw e.state record { side_is = i.send.side_is; matched = matched_sent c.test_send_plain.result c.self.inside.send.state i.send.matched };
      recv = i.recv;
      send_agrees = e.agrees;
      recv_agrees = subst (Agrees c.self.inside.recv.state) (sym e.other_side) i.recv_agrees;
    }
    (e.call used i.here i.known).1 e.shape (sent_same (test_send_answer c.self.inside.pair.shape i.here) i.here)

pub returns-clause-answer : goal.returns-clause-answer
returns-clause-answer c =
    let e = c.test_send_plain.ensures in
    let used : is_in_use c.self.inside.send.state ≡ true = rw (← c.self.view_is) at c.requires in
    rw (← c.self.view_is)
    (λ d st.
    let a = e.call used d.record_ st.record_ in
    let is : Ok c.in-Ok.answer ≡ Ok (test_send_answer c.self.inside.pair.shape d.record_) = sym c.in-Ok.is ∙ a.0 in
    (cc, record { record_ = a.1; send = ap (λ (r : Req). r.state) e.state ∙ ap₂ state_sent a.0 st.send; recv = st.recv }))
