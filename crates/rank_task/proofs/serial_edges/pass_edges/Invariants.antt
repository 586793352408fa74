use Rattle.std.proofs.Common.{◌-◌}
use Rattle.stencil_def.specs.Plane.{Plane}
use Rattle.stencil_def.specs.declared.rule.Rule.{Rule}
use Rattle.rank_task.specs.Blocks.{AreBrought, ArePaired, AreSized, HasRoom, OwnRead, Suit}
use Rattle.rank_task.proofs.serial_edges.pass_edges.Given as goal

-- the rows of the first edges have passed
abbrev pub invariant-loop-e : goal.invariant-loop-e
invariant-loop-e l = record {
  pairs : ArePaired l.plan (l.round - 1) l.e l.pairs;
  blocks : AreSized l.plan l.blocks;
  scratch : HasRoom l.plan l.scratch;
  own : (g : Plane) (rule : Rule) → Suit l.plan g rule → OwnRead l.plan g rule l.fn.blocks → OwnRead l.plan g rule l.blocks;
  brought : (g : Plane) (rule : Rule) → Suit l.plan g rule → OwnRead l.plan g rule l.fn.blocks → AreBrought l.plan g rule l.blocks l.e;
}
