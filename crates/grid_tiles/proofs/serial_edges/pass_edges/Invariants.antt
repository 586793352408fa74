use Rattle.std.proofs.Common.{◌-◌}
use Rattle.stencil_def.specs.Plane.{Plane}
use Rattle.stencil_def.specs.declared.rule.Rule.{Rule}
use Rattle.grid_tiles.specs.Blocks.{AreBrought, AreLinked, AreReady, AreSized, HasRoom, Keeps, Suit}
use Rattle.grid_tiles.proofs.serial_edges.pass_edges.Given as goal

-- the cells of the first edges have passed
abbrev pub invariant-loop-e : goal.invariant-loop-e
invariant-loop-e l = record {
  links : AreLinked l.plan (l.round - 1) l.e l.links;
  blocks : AreSized l.plan l.blocks;
  scratch : HasRoom l.scratch;
  keeps : (g : Plane) (rule : Rule) → Suit l.plan g rule → AreReady l.plan g rule l.fn.blocks l.from l.end → Keeps l.plan g rule l.fn.blocks l.blocks;
  brought : (g : Plane) (rule : Rule) → Suit l.plan g rule → AreReady l.plan g rule l.fn.blocks l.from l.end → AreBrought l.plan g rule l.blocks l.from l.e;
}
