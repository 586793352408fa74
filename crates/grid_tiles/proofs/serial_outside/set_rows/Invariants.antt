use Rattle.std.specs.List.{All}
use Rattle.stencil_def.specs.Limits.{IsValue}
use Rattle.grid_tiles.specs.Blocks.{RowsSet}
use Rattle.grid_tiles.proofs.serial_outside.set_rows.Given as goal

abbrev pub invariant-loop-k : goal.invariant-loop-k
invariant-loop-k l = record { set : RowsSet l.plan l.rule l.t l.from l.k l.fn.block l.block; values : All IsValue l.room }
