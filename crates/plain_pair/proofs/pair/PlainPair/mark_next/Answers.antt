use Rattle.std.proofs.Common.{ap, ◌∙◌}
use Rattle.plain_pair.proofs.ManyMarks.{goes_on_marked, goes_on_refused}
use Rattle.plain_pair.proofs.pair.PlainPair.mark_next.Goals as goal

pub returns-in-Ok-clause-goes_on : goal.returns-in-Ok-clause-goes_on
returns-in-Ok-clause-goes_on c =
    let size = c.send_bytes-size.ensures.value ∙ ap (λ g. g.send_bytes) c.geometry.ensures.value in
    goes_on_marked c.args.self.now _ _ _ _ _ _ _ (rw size at c.in-Ok.ensures.answer)

pub returns-in-Err-clause-goes_on : goal.returns-in-Err-clause-goes_on
returns-in-Err-clause-goes_on c =
    let size = c.send_bytes-size.ensures.value ∙ ap (λ g. g.send_bytes) c.geometry.ensures.value in
    goes_on_refused c.args.self.now _ _ _ c.args.marks.now.sent _ _ _ (rw size at c.in-Err.ensures.answer)
