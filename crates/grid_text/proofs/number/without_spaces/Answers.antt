use Rattle.std.proofs.Common.{refl}
use Rattle.grid_text.specs.Numbers.{bare}
use Rattle.grid_text.proofs.number.without_spaces.Goals as goal

pub loop-rest-init : goal.loop-rest-init
unfolding bare
loop-rest-init c = rw c.without_first_spaces-rest.ensures refl
