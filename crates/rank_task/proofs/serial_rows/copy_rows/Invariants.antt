use Rattle.rank_task.proofs.RowFacts.{RowsCopied}
use Rattle.rank_task.proofs.serial_rows.copy_rows.Given as goal

abbrev pub invariant-loop-k : goal.invariant-loop-k
invariant-loop-k l = RowsCopied l.block l.first l.k l.out
