use Rattle.part_tables.specs.Tables.{IsTable, run_at}
use Rattle.part_tables.proofs.tables.piece_runs.Given as goal

abbrev pub invariant-loop-i : goal.invariant-loop-i
invariant-loop-i l = IsTable (run_at l.fn.geometry) l.i l.runs.items
