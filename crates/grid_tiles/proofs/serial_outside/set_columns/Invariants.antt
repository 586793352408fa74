use Rattle.grid_tiles.specs.Blocks.{ColumnsSet}
use Rattle.grid_tiles.proofs.serial_outside.set_columns.Given as goal

abbrev pub invariant-loop-k : goal.invariant-loop-k
invariant-loop-k l = ColumnsSet l.plan l.rule l.t l.from l.k l.fn.block l.block
