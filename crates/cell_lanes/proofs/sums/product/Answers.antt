use Rattle.stencil_def.proofs.SumFacts.{product-fits, product-exact, product-small}
use Rattle.cell_lanes.proofs.sums.product.Goals as goal

pub overflow_mul-result : goal.overflow_mul-result
overflow_mul-result c = product-fits c.args.weight c.args.value c.requires.weight c.requires.value

pub returns-clause-value : goal.returns-clause-value
returns-clause-value c = product-exact c.args.weight c.args.value c.requires.weight c.requires.value

pub returns-clause-limits : goal.returns-clause-limits
returns-clause-limits c =
    rw (product-exact c.args.weight c.args.value c.requires.weight c.requires.value) (product-small c.args.weight c.args.value c.requires.weight c.requires.value)
