use Rattle.plain_pair.specs.Tables.{number}
use Rattle.plain_pair.proofs.Firsts.{SoFar}
use Rattle.plain_pair.proofs.tables.first_cells.Given as goal

abbrev pub invariant-loop-c : goal.invariant-loop-c
invariant-loop-c l = SoFar (number l.row l.fn.geometry) l.c l.firsts.items
