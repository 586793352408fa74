use Rattle.std.proofs.Common.{◌≡◌, pos, ◌-ℤ◌, unsigned_abs, get_or}
use Rattle.cell_lanes.specs.Change.{IsChange, greatest_below}
use Rattle.cell_lanes.proofs.change.greatest_change.Given as goal

abbrev pub invariant-loop-x : goal.invariant-loop-x
invariant-loop-x l = record {
  most : l.most ≡ pos (greatest_below l.x (λ k. unsigned_abs (get_or l.new k (pos 0) -ℤ get_or l.old k (pos 0))));
  limits : IsChange l.most;
}
