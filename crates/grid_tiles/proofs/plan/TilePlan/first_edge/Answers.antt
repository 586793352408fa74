use Rattle.std.proofs.Common.{◌∙◌, sym, ap, subst, ◌/◌, ◌%◌, ◌<◌, Some, arith}
use Rattle.grid_tiles.specs.declared.tile.TileEdge.{TileEdge}
use Rattle.grid_tiles.specs.Plan.{Plan}
use Rattle.grid_tiles.specs.Edges.{leftward, next, nexts, rightward}
use Rattle.grid_tiles.proofs.EdgeFacts.{first-even, first-odd, first-pair, nexts-few}
use Rattle.grid_tiles.proofs.plan.TilePlan.first_edge.Goals as goal

pub nonzero_div-a : goal.nonzero_div-a
nonzero_div-a c =
    let count = c.nexts-count.ensures ∙ ap (λ (q : Plan). nexts q.shape.around q.tile_cols) c.self.view_is in
    let h = (first-pair c.args.self.now c.args.e c.requires).some in omega arith

pub nonzero_rem-b : goal.nonzero_rem-b
nonzero_rem-b c = nonzero_div-a c

pub next-c-requires : goal.next-c-requires
next-c-requires c =
    let p = c.args.self.now in
    let count = c.nexts-count.ensures ∙ ap (λ (q : Plan). nexts q.shape.around q.tile_cols) c.self.view_is in
    let h = subst (λ n. c.args.e / 2 % n < nexts p.shape.around p.tile_cols) (sym count) (first-pair p c.args.e c.requires).place in
    let few = nexts-few p.shape.around p.tile_cols in
    let cols = ap (λ (q : Plan). q.tile_cols) c.self.view_is in
    omega arith

pub rightward-requires-clause-row : goal.rightward-requires-clause-row
rightward-requires-clause-row c =
    let p = c.args.self.now in
    let count = c.nexts-count.ensures ∙ ap (λ (q : Plan). nexts q.shape.around q.tile_cols) c.self.view_is in
    subst (λ n. c.args.e / 2 / n < p.tile_rows) (sym count) (first-pair p c.args.e c.requires).row

pub leftward-requires-clause-row : goal.leftward-requires-clause-row
leftward-requires-clause-row c =
    let p = c.args.self.now in
    let count = c.nexts-count.ensures ∙ ap (λ (q : Plan). nexts q.shape.around q.tile_cols) c.self.view_is in
    subst (λ n. c.args.e / 2 / n < p.tile_rows) (sym count) (first-pair p c.args.e c.requires).row

pub returns-then-e-eq0-clause-value : goal.returns-then-e-eq0-clause-value
returns-then-e-eq0-clause-value c =
    let p = c.args.self.now in let e = c.args.e in let n = c.nexts-count.result in
    let count = c.nexts-count.ensures ∙ ap (λ (q : Plan). nexts q.shape.around q.tile_cols) c.self.view_is in
    let there = c.next-c.ensures.value ∙ ap (λ (q : Plan). next q.tile_cols (e / 2 % n)) c.self.view_is in
    first-even p e (e / 2 / n) (e / 2 % n) c.requires (λ i. e / 2 / count i) (λ i. e / 2 % count i) c.if-e-eq0.true
    ∙ ap (λ d. Some (rightward p (e / 2 / n) (e / 2 % n) d)) (sym there) ∙ ap (λ (x : TileEdge). Some x) (sym c.rightward.ensures.value)

pub returns-else-e-eq0-clause-value : goal.returns-else-e-eq0-clause-value
returns-else-e-eq0-clause-value c =
    let p = c.args.self.now in let e = c.args.e in let n = c.nexts-count.result in
    let count = c.nexts-count.ensures ∙ ap (λ (q : Plan). nexts q.shape.around q.tile_cols) c.self.view_is in
    let there = c.next-c.ensures.value ∙ ap (λ (q : Plan). next q.tile_cols (e / 2 % n)) c.self.view_is in
    first-odd p e (e / 2 / n) (e / 2 % n) c.requires (λ i. e / 2 / count i) (λ i. e / 2 % count i) (omega arith)
    ∙ ap (λ d. Some (leftward p (e / 2 / n) (e / 2 % n) d)) (sym there) ∙ ap (λ (x : TileEdge). Some x) (sym c.leftward.ensures.value)
