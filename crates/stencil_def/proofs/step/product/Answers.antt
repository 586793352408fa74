use Rattle.std.proofs.Common.{◌≡◌, ◌∙◌, ap, ◌+◌, pos, ◌-ℤ◌, ◌*ℤ◌}
use Rattle.stencil_def.specs.Square.{weight}
use Rattle.stencil_def.specs.Step.{read}
use Rattle.stencil_def.proofs.SumFacts.{product-fits, product-exact, product-small, read-exact}
use Rattle.stencil_def.proofs.step.product.Goals as goal

pub overflow_mul-result : goal.overflow_mul-result
overflow_mul-result c = product-fits c.at.result c.read_cell-value.result c.at.ensures.limits c.read_cell-value.ensures.limits

pub returns-clause-value : goal.returns-clause-value
returns-clause-value c =
    let g = c.args.grid.now in let rule = c.args.rule.now in
    let y = rw c.reach-reach.ensures.value at c.shifted-y.ensures.value in
    let x = rw c.reach-reach.ensures.value at c.shifted-x.ensures.value in
    let met = c.read_cell-value.ensures.value ∙ read-exact g rule c.shifted-y.result c.shifted-x.result c.shifted-y.ensures.limits c.shifted-x.ensures.limits in
    let there : c.read_cell-value.result ≡ read g rule (pos (c.args.row + c.args.a) -ℤ pos rule.weights.reach) (pos (c.args.col + c.args.b) -ℤ pos rule.weights.reach) =
    met ∙ (ap (λ t. read g rule t c.shifted-x.result) y ∙ ap (λ t. read g rule (pos (c.args.row + c.args.a) -ℤ pos rule.weights.reach) t) x) in
    product-exact c.at.result c.read_cell-value.result c.at.ensures.limits c.read_cell-value.ensures.limits
    ∙ (ap (λ t. t *ℤ c.read_cell-value.result) c.at.ensures.value ∙ ap (λ t. weight rule.weights c.args.a c.args.b *ℤ t) there)

pub returns-clause-limits : goal.returns-clause-limits
returns-clause-limits c =
    rw (product-exact c.at.result c.read_cell-value.result c.at.ensures.limits c.read_cell-value.ensures.limits)
    (product-small c.at.result c.read_cell-value.result c.at.ensures.limits c.read_cell-value.ensures.limits)
