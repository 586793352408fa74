use Rattle.std.proofs.Common.{◌==◌, not, slice_index, ap, ◌∙◌}
use Rattle.std.proofs.lemmas.Bool.{eq-eqb}
use Rattle.plain_pair.proofs.Overs.{find-next}
use Rattle.plain_pair.proofs.marking.first_missing.Goals as goal

pub loop-i-preserved : goal.loop-i-preserved
loop-i-preserved c =
    let whole = eq-eqb (slice_index c.args.missing.now c.loop-i.i) 0 c.if-missing-i-ne0.false in
    c.loop-i.invariant
    ∙ find-next (λ i. not (slice_index c.args.missing.now i == 0)) c.loop-i.i c.args.end c.loop-i-test.true (ap not whole)
