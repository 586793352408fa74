use Rattle.std.proofs.Common.{◌∙◌, sym, ap, subst, ◌/◌, ◌%◌, ◌<◌, Some, arith}
use Rattle.grid_tiles.specs.declared.tile.TileEdge.{TileEdge}
use Rattle.grid_tiles.specs.Plan.{Plan}
use Rattle.grid_tiles.specs.Edges.{downward, next, nexts, upward}
use Rattle.grid_tiles.proofs.EdgeFacts.{nexts-few, second-even, second-odd, second-pair}
use Rattle.grid_tiles.proofs.plan.TilePlan.second_edge.Goals as goal

pub next-d-requires : goal.next-d-requires
next-d-requires c =
    let p = c.args.self.now in
    let cols = ap (λ (q : Plan). q.tile_cols) c.self.view_is in
    let rows = ap (λ (q : Plan). q.tile_rows) c.self.view_is in
    let h = subst (λ n. c.args.e / 2 / n < nexts p.shape.around p.tile_rows) (sym cols) (second-pair p c.args.e c.requires).row in
    let few = nexts-few p.shape.around p.tile_rows in
    omega arith

pub returns-then-e-eq0-clause-value : goal.returns-then-e-eq0-clause-value
returns-then-e-eq0-clause-value c =
    let p = c.args.self.now in let e = c.args.e in let n = c.self.inside.tile_cols in
    let cols = ap (λ (q : Plan). q.tile_cols) c.self.view_is in
    let there = c.next-d.ensures.value ∙ ap (λ (q : Plan). next q.tile_rows (e / 2 / n)) c.self.view_is in
    second-even p e (e / 2 / n) (e / 2 % n) c.requires (λ i. e / 2 / cols i) (λ i. e / 2 % cols i) c.if-e-eq0.true
    ∙ ap (λ d. Some (downward p (e / 2 / n) (e / 2 % n) d)) (sym there) ∙ ap (λ (x : TileEdge). Some x) (sym c.downward.ensures.value)

pub returns-else-e-eq0-clause-value : goal.returns-else-e-eq0-clause-value
returns-else-e-eq0-clause-value c =
    let p = c.args.self.now in let e = c.args.e in let n = c.self.inside.tile_cols in
    let cols = ap (λ (q : Plan). q.tile_cols) c.self.view_is in
    let there = c.next-d.ensures.value ∙ ap (λ (q : Plan). next q.tile_rows (e / 2 / n)) c.self.view_is in
    second-odd p e (e / 2 / n) (e / 2 % n) c.requires (λ i. e / 2 / cols i) (λ i. e / 2 % cols i) (omega arith)
    ∙ ap (λ d. Some (upward p (e / 2 / n) (e / 2 % n) d)) (sym there) ∙ ap (λ (x : TileEdge). Some x) (sym c.upward.ensures.value)
