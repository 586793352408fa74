use Rattle.std.proofs.Common.{◌≡◌, length}
use Rattle.grid_text.specs.Numbers.{bare}
use Rattle.grid_text.proofs.Spaces.{until_last}
use Rattle.grid_text.proofs.number.without_spaces.Given as goal

abbrev pub invariant-loop-rest : goal.invariant-loop-rest
invariant-loop-rest l = until_last l.rest ≡ bare l.text

abbrev pub decreases-loop-rest : goal.decreases-loop-rest
decreases-loop-rest l = length l.rest
