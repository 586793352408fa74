use Rattle.std.proofs.Common.{◌∙◌, ap, not, false, length, slice_index_or}
use Rattle.plain_pair.proofs.Overs.{find-next}
use Rattle.plain_pair.proofs.flags.least_without.Goals as goal

pub loop-i-preserved : goal.loop-i-preserved
loop-i-preserved c =
    c.loop-i.invariant
    ∙ find-next (λ x. not (slice_index_or c.args.flags.now x false)) c.loop-i.i (length c.args.flags.now) c.loop-i-test.true (ap not c.if-not-flags-i.false)
