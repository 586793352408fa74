use Rattle.cell_lanes.proofs.SplitFacts.{lows-fit, highs-fit, raised-fit, sums-fit, sums-are}
use Rattle.cell_lanes.proofs.lanes.times.Goals as goal

pub overflow_mul-result : goal.overflow_mul-result
overflow_mul-result c = lows-fit c.args.weight c.args.values c.requires.lanes c.requires.weight c.requires.values

pub overflow_mul-result-2 : goal.overflow_mul-result-2
overflow_mul-result-2 c = highs-fit c.args.weight c.args.values c.requires.lanes c.requires.weight c.requires.values

pub overflow_mul-result-3 : goal.overflow_mul-result-3
overflow_mul-result-3 c = raised-fit c.args.weight c.args.values c.requires.lanes c.requires.weight c.requires.values

pub overflow_add-result : goal.overflow_add-result
overflow_add-result c = sums-fit c.args.weight c.args.values c.requires.lanes c.requires.weight c.requires.values

pub returns : goal.returns
returns c = sums-are c.args.weight c.args.values c.requires.lanes c.requires.weight c.requires.values
