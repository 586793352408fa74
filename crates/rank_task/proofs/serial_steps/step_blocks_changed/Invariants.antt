use Rattle.std.proofs.Common.{◌≡◌, ℕ, ◌<◌, ◌≤◌, pos}
use Rattle.stencil_def.specs.Plane.{Plane}
use Rattle.stencil_def.specs.Step.{next_plane}
use Rattle.cell_lanes.specs.Block.{HoldsOwn}
use Rattle.cell_lanes.specs.Change.{IsChange, change_within}
use Rattle.halo_plan.specs.Plan.{first_row}
use Rattle.rank_task.specs.Blocks.{AllRead, AreSized, Suit, block_at}
use Rattle.rank_task.proofs.serial_steps.step_blocks_changed.Given as goal

-- the first blocks made the step, and their rows were compared
abbrev pub invariant-loop-i : goal.invariant-loop-i
invariant-loop-i l = record {
  blocks : AreSized l.plan l.blocks;
  next : (g : Plane) → Suit l.plan g l.rule → AllRead l.plan g l.rule l.fn.blocks → (i : ℕ) → i < l.i
      → HoldsOwn (next_plane g l.rule) (first_row l.plan i) 0 (block_at l.blocks i);
  rest : (i : ℕ) → l.i ≤ i → block_at l.blocks i ≡ block_at l.fn.blocks i;
  change : (g : Plane) → Suit l.plan g l.rule → AllRead l.plan g l.rule l.fn.blocks
      → l.most ≡ pos (change_within g (next_plane g l.rule) 0 (first_row l.plan l.i) 0 l.plan.cols);
  range : IsChange l.most;
}
