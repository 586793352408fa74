use Rattle.std.proofs.Common.{length}
use Rattle.partrate.proofs.bytes.check.Given as goal

abbrev pub decreases-loop-chunk : goal.decreases-loop-chunk
decreases-loop-chunk l = length l.rest
