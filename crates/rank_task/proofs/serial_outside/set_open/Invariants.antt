use Rattle.std.proofs.Common.{ℕ, ◌<◌}
use Rattle.std.specs.List.{All}
use Rattle.stencil_def.specs.Limits.{IsValue}
use Rattle.stencil_def.specs.Plane.{Plane}
use Rattle.rank_task.specs.Blocks.{AreSized, IsOpenRead, Keeps, OwnRead, Suit}
use Rattle.rank_task.proofs.serial_outside.set_open.Given as goal

-- the first rows on both sides were set
abbrev pub invariant-loop-k : goal.invariant-loop-k
invariant-loop-k l = record {
  blocks : AreSized l.plan l.blocks;
  values : All IsValue l.row;
  keeps : (g : Plane) → Suit l.plan g l.rule → OwnRead l.plan g l.rule l.fn.blocks → Keeps l.plan g l.rule l.fn.blocks l.blocks;
  set : (g : Plane) (k : ℕ) → Suit l.plan g l.rule → OwnRead l.plan g l.rule l.fn.blocks → k < l.k → IsOpenRead l.plan g l.rule l.blocks k;
}
