use Rattle.plain_pair.specs.Many.{whole_length, entries}
use Rattle.script_pair.proofs.Holding.{held_marked}
use Rattle.script_pair.proofs.Keeping.{progress_same}
use Rattle.script_pair.proofs.held.MatchedPair.ready_list.Goals as goal

pub invariant_of-self : goal.invariant_of-self
invariant_of-self c =
    let i = c.self.invariant in
    let g = c.self.inside.pair.shape in
    held_marked _ c.pready_list.new.self _ i (c.pready_list.ensures.answer i.here i.known).1 c.pready_list.ensures.shape c.pready_list.ensures.sides
    (progress_same (whole_length g c.args.parts.now c.args.bytes.now) g i.here c.args.round (entries g c.args.parts.now c.args.bytes.now))

pub returns-clause-answer : goal.returns-clause-answer
returns-clause-answer c =
    rw (← c.self.view_is)
    (λ d st. let a = c.pready_list.ensures.answer d.record_ st.record_ in (a.0, record { record_ = a.1; send = st.send; recv = st.recv }))
