use Rattle.std.proofs.Common.{◌+◌}
use Rattle.stencil_def.specs.Plane.{Plane}
use Rattle.stencil_def.specs.Step.{fold_plane}
use Rattle.grid_tiles.specs.Blocks.{AreLinked, AreSized, HasRoom, HoldGrid, Suit}
use Rattle.grid_tiles.proofs.serial_steps.run_steps.Given as goal

-- the first steps were made
abbrev pub invariant-loop-k : goal.invariant-loop-k
invariant-loop-k l = record {
  links : AreLinked l.plan (l.done + l.k) 0 l.links;
  blocks : AreSized l.plan l.blocks;
  scratch : HasRoom l.scratch;
  fold : (g : Plane) → Suit l.plan g l.rule → HoldGrid l.plan g l.fn.blocks → HoldGrid l.plan (fold_plane g l.rule l.k) l.blocks;
}
