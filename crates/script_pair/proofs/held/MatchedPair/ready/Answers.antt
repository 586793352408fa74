use Rattle.script_pair.proofs.Holding.{held_marked}
use Rattle.script_pair.proofs.Keeping.{pready_same}
use Rattle.script_pair.proofs.held.MatchedPair.ready.Goals as goal

pub invariant_of-self : goal.invariant_of-self
invariant_of-self c =
    let i = c.self.invariant in
    held_marked _ c.pready.new.self _ i (c.pready.ensures.answer i.here i.known).1 c.pready.ensures.shape c.pready.ensures.sides
    (pready_same c.self.inside.pair.shape i.here c.args.round c.args.p c.args.bytes.now)

pub returns-clause-answer : goal.returns-clause-answer
returns-clause-answer c =
    rw (← c.self.view_is)
    (λ d st. let a = c.pready.ensures.answer d.record_ st.record_ in (a.0, record { record_ = a.1; send = st.send; recv = st.recv }))
