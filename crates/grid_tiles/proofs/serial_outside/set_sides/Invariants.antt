use Rattle.std.proofs.Common.{◌≡◌, ℕ, ◌<◌, ◌≤◌}
use Rattle.grid_tiles.specs.Tiles.{block_at}
use Rattle.grid_tiles.specs.Blocks.{AreSidesSet, AreSized}
use Rattle.grid_tiles.proofs.serial_outside.set_sides.Given as goal

-- the first tiles' columns were set
abbrev pub invariant-loop-t : goal.invariant-loop-t
invariant-loop-t l = record {
  blocks : AreSized l.plan l.blocks;
  set : (t : ℕ) → t < l.t → AreSidesSet l.plan l.rule t (block_at l.fn.blocks t) (block_at l.blocks t);
  rest : (t : ℕ) → l.t ≤ t → block_at l.blocks t ≡ block_at l.fn.blocks t;
}
