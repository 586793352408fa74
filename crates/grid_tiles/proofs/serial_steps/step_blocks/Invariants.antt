use Rattle.std.proofs.Common.{◌≡◌, ℕ, ◌<◌, ◌≤◌}
use Rattle.stencil_def.specs.Plane.{Plane}
use Rattle.stencil_def.specs.Step.{next_plane}
use Rattle.cell_lanes.specs.Block.{HoldsOwn}
use Rattle.grid_tiles.specs.Tiles.{block_at}
use Rattle.grid_tiles.specs.Blocks.{AllRead, AreSized, Suit, left, top}
use Rattle.grid_tiles.proofs.serial_steps.step_blocks.Given as goal

-- the first blocks made the step
abbrev pub invariant-loop-t : goal.invariant-loop-t
invariant-loop-t l = record {
  blocks : AreSized l.plan l.blocks;
  next : (g : Plane) → Suit l.plan g l.rule → AllRead l.plan g l.rule l.fn.blocks → (t : ℕ) → t < l.t
      → HoldsOwn (next_plane g l.rule) (top l.plan t) (left l.plan t) (block_at l.blocks t);
  rest : (t : ℕ) → l.t ≤ t → block_at l.blocks t ≡ block_at l.fn.blocks t;
}
