use Rattle.std.proofs.Common.{◌≡◌, ℕ}
use Rattle.stencil_def.specs.declared.rule.Rule.{Rule}
use Rattle.stencil_def.specs.Plane.{Plane}
use Rattle.stencil_def.specs.Step.{next_plane}
use Rattle.cell_lanes.specs.Block.{Holds, HoldsOwnBelow, IsInside, IsPart, part_of}
use Rattle.cell_lanes.proofs.block.next_own.Given as goal

-- the first rows are done
abbrev pub invariant-loop-row : goal.invariant-loop-row
invariant-loop-row l = record {
  own : (g : Plane) (rule : Rule) (top left : ℕ) → l.weights ≡ rule.weights → l.divisor ≡ rule.div → Holds g rule top left (part_of l.rows l.cols l.reach l.values)
      → IsInside g top left (part_of l.rows l.cols l.reach l.values) → HoldsOwnBelow (next_plane g rule) top left l.row (part_of l.rows l.cols l.reach l.next);
  limits : IsPart (part_of l.rows l.cols l.reach l.next);
}
