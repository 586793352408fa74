use Rattle.std.proofs.Common.{◌∙◌, sym, ap, ◌+◌, ◌*◌}
use Rattle.grid_tiles.specs.Plan.{Plan}
use Rattle.grid_tiles.specs.Edges.{nexts}
use Rattle.grid_tiles.proofs.EdgeFacts.{edges-many, second-many}
use Rattle.grid_tiles.proofs.plan.TilePlan.edge_count.Goals as goal

pub returns-clause-value : goal.returns-clause-value
returns-clause-value c =
    let p = c.args.self.now in
    let count = c.nexts.ensures ∙ ap (λ (q : Plan). nexts q.shape.around q.tile_rows) c.self.view_is in
    let cols = ap (λ (q : Plan). q.tile_cols) c.self.view_is in
    let second = (λ i. 2 * (count i * cols i)) ∙ sym (second-many p) in
    (λ i. c.first_count.ensures.value i + second i) ∙ sym (edges-many p)
