use Rattle.std.proofs.Common.{◌≡◌, length}
use Rattle.grid_text.specs.Numbers.{from_first}
use Rattle.grid_text.proofs.number.without_first_spaces.Given as goal

abbrev pub invariant-loop-rest : goal.invariant-loop-rest
invariant-loop-rest l = from_first l.rest ≡ from_first l.text

abbrev pub decreases-loop-rest : goal.decreases-loop-rest
decreases-loop-rest l = length l.rest
