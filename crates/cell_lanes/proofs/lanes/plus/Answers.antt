use Rattle.cell_lanes.proofs.LaneFacts.{sums-fit, sums-are}
use Rattle.cell_lanes.proofs.lanes.plus.Goals as goal

pub overflow_add-result : goal.overflow_add-result
overflow_add-result c = sums-fit c.args.left c.args.right c.requires.left c.requires.right

pub returns : goal.returns
returns c = sums-are c.args.left c.args.right c.requires.left c.requires.right
