use Rattle.std.proofs.Common.{◌∙◌, sym, ap, ◌*◌}
use Rattle.grid_tiles.specs.Plan.{Plan}
use Rattle.grid_tiles.specs.Edges.{nexts}
use Rattle.grid_tiles.proofs.EdgeFacts.{first-many}
use Rattle.grid_tiles.proofs.plan.TilePlan.first_count.Goals as goal

pub returns-clause-value : goal.returns-clause-value
returns-clause-value c =
    let count = c.nexts.ensures ∙ ap (λ (q : Plan). nexts q.shape.around q.tile_cols) c.self.view_is in
    let rows = ap (λ (q : Plan). q.tile_rows) c.self.view_is in
    (λ i. 2 * (rows i * count i)) ∙ sym (first-many c.args.self.now)
