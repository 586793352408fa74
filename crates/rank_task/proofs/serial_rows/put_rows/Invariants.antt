use Rattle.rank_task.proofs.RowFacts.{RowsPut}
use Rattle.rank_task.proofs.serial_rows.put_rows.Given as goal

abbrev pub invariant-loop-k : goal.invariant-loop-k
invariant-loop-k l = RowsPut l.fn.block l.first l.k l.rows l.block
