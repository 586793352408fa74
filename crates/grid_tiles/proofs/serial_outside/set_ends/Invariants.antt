use Rattle.std.proofs.Common.{◌≡◌, ℕ, ◌<◌, ◌≤◌}
use Rattle.std.specs.List.{All}
use Rattle.stencil_def.specs.Limits.{IsValue}
use Rattle.grid_tiles.specs.Tiles.{block_at}
use Rattle.grid_tiles.specs.Blocks.{AreEndsSet, AreSized}
use Rattle.grid_tiles.proofs.serial_outside.set_ends.Given as goal

-- the first tiles' rows were set
abbrev pub invariant-loop-t : goal.invariant-loop-t
invariant-loop-t l = record {
  blocks : AreSized l.plan l.blocks;
  set : (t : ℕ) → t < l.t → AreEndsSet l.plan l.rule t (block_at l.fn.blocks t) (block_at l.blocks t);
  values : All IsValue l.room;
  rest : (t : ℕ) → l.t ≤ t → block_at l.blocks t ≡ block_at l.fn.blocks t;
}
