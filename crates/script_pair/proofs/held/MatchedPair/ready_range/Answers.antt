use Rattle.plain_pair.specs.Many.{whole_range, range_parts, entries}
use Rattle.script_pair.proofs.Holding.{held_marked}
use Rattle.script_pair.proofs.Keeping.{progress_same}
use Rattle.script_pair.proofs.held.MatchedPair.ready_range.Goals as goal

pub invariant_of-self : goal.invariant_of-self
invariant_of-self c =
    let i = c.self.invariant in
    let g = c.self.inside.pair.shape in
    let listed = range_parts c.args.low c.args.high in
    held_marked _ c.pready_range.new.self _ i (c.pready_range.ensures.answer i.here i.known).1 c.pready_range.ensures.shape c.pready_range.ensures.sides
    (progress_same (whole_range g c.args.low c.args.high listed c.args.bytes.now) g i.here c.args.round (entries g listed c.args.bytes.now))

pub returns-clause-answer : goal.returns-clause-answer
returns-clause-answer c =
    rw (← c.self.view_is)
    (λ d st. let a = c.pready_range.ensures.answer d.record_ st.record_ in (a.0, record { record_ = a.1; send = st.send; recv = st.recv }))
