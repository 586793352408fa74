use Rattle.std.proofs.Common.{sym, ◌∙◌, ◌≡◌, Ok, Err}
use Rattle.script_pair.proofs.Holding.{held_took, held_untaken}
use Rattle.plain_pair.specs.Moves.{take_answer}
use Rattle.script_pair.proofs.held.MatchedPair.take.Goals as goal

pub invariant_of-self : goal.invariant_of-self
invariant_of-self c =
    let i = c.self.invariant in
    let a = c.take.ensures.answer i.here i.known in
    held_took _ c.take.new.self c.args.q c.in-Ok.arrival i a.1 (sym c.in-Ok.is ∙ a.0) c.take.ensures.shape c.take.ensures.sides c.in-Ok.ensures.out

pub invariant_of-self-in-Err : goal.invariant_of-self-in-Err
invariant_of-self-in-Err c =
    let i = c.self.invariant in
    let a = c.take.ensures.answer i.here i.known in
    held_untaken _ c.take.new.self c.args.q c.in-Err.cause i a.1 (sym c.in-Err.is ∙ a.0) c.take.ensures.shape c.take.ensures.sides

pub returns-in-Ok-clause-answer : goal.returns-in-Ok-clause-answer
returns-in-Ok-clause-answer c =
    let g = c.self.inside.pair.shape in
    rw (← c.self.view_is)
    (λ d st.
    let a = c.take.ensures.answer d.record_ st.record_ in
    let is : Ok c.in-Ok.arrival ≡ take_answer g d.record_ c.args.q = sym c.in-Ok.is ∙ a.0 in
    (rw (← is) (rw c.as_slice.ensures.value at c.bytes-text.ensures), record { record_ = a.1; send = st.send; recv = st.recv }))

pub returns-in-Err-clause-answer : goal.returns-in-Err-clause-answer
returns-in-Err-clause-answer c =
    let g = c.self.inside.pair.shape in
    rw (← c.self.view_is)
    (λ d st.
    let a = c.take.ensures.answer d.record_ st.record_ in
    let is : Err c.in-Err.cause ≡ take_answer g d.record_ c.args.q = sym c.in-Err.is ∙ a.0 in
    (rw (← is) c.untaken.ensures, record { record_ = a.1; send = st.send; recv = st.recv }))
