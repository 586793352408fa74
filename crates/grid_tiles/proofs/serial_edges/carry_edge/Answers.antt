use Rattle.std.proofs.Common.{◌∙◌, subst, ℕ, ◌+◌, ◌<◌, ℤ, List, get_or, arith}
use Rattle.cell_lanes.specs.Block.{Part}
use Rattle.grid_tiles.specs.Blocks.{HasRead, Holding, IsPut, IsReady, Suit, land_col, land_row}
use Rattle.stencil_def.specs.Plane.{Plane}
use Rattle.stencil_def.specs.declared.rule.Rule.{Rule}
use Rattle.grid_tiles.proofs.BringFacts.{edge-brings}
use Rattle.grid_tiles.proofs.PassFacts.{block-found, brought-set, cells-brought, cells-keep, found-sized, keeps-set, land-col, land-row, leave-col, leave-row, put-sized, sized-set}
use Rattle.grid_tiles.proofs.serial_edges.carry_edge.Goals as goal

pub bounds-blocks-edge : goal.bounds-blocks-edge
bounds-blocks-edge c =
    let b = edge-brings c.args.plan.now c.requires.edge.0 c.args.edge c.reach-reach.ensures.limits c.requires.edge.1 in
    let from = b.from in let count = c.requires.blocks.count in omega arith

pub copy_cells-requires-clause-rows : goal.copy_cells-requires-clause-rows
copy_cells-requires-clause-rows c =
    let p = c.args.plan.now in let x = c.args.edge in
    let b = edge-brings p c.requires.edge.0 x c.reach-reach.ensures.limits c.requires.edge.1 in
    let s = found-sized p c.args.blocks.now x.from c.index-blocks-edge.result c.requires.blocks b.from in
    let rows = s.rows in let high = s.reach in let fits = b.leave_rows in
    let place = leave-row p x c.leaving-y.result.0 c.rows.result c.reach-reach.result c.leaving-y.ensures.row (c.rows.ensures.value ∙ rows) c.reach-reach.ensures.value in
    omega arith

pub copy_cells-requires-clause-cols : goal.copy_cells-requires-clause-cols
copy_cells-requires-clause-cols c =
    let p = c.args.plan.now in let x = c.args.edge in
    let b = edge-brings p c.requires.edge.0 x c.reach-reach.ensures.limits c.requires.edge.1 in
    let s = found-sized p c.args.blocks.now x.from c.index-blocks-edge.result c.requires.blocks b.from in
    let cols = s.cols in let high = s.reach in let fits = b.leave_cols in
    let place = leave-col p x c.leaving-y.result.1 c.cols.result c.reach-reach.result c.leaving-y.ensures.column (c.cols.ensures.value ∙ cols) c.reach-reach.ensures.value in
    omega arith

pub bounds-blocks-edge-2 : goal.bounds-blocks-edge-2
bounds-blocks-edge-2 c =
    let b = edge-brings c.args.plan.now c.requires.edge.0 c.args.edge c.reach-reach.ensures.limits c.requires.edge.1 in
    let to = b.to in let count = c.requires.blocks.count in omega arith

pub put_cells-requires-clause-rows : goal.put_cells-requires-clause-rows
put_cells-requires-clause-rows c =
    let p = c.args.plan.now in let x = c.args.edge in
    let b = edge-brings p c.requires.edge.0 x c.reach-reach.ensures.limits c.requires.edge.1 in
    let s = found-sized p c.args.blocks.now x.to c.index-blocks-edge-2.result c.requires.blocks b.to in
    let rows = s.rows in let high = s.reach in let fits = b.land_rows in
    let place = land-row p x c.landing-y.result.0 c.rows-2.result c.reach-reach.result c.landing-y.ensures.row (c.rows-2.ensures.value ∙ rows) c.reach-reach.ensures.value in
    omega arith

pub put_cells-requires-clause-cols : goal.put_cells-requires-clause-cols
put_cells-requires-clause-cols c =
    let p = c.args.plan.now in let x = c.args.edge in
    let b = edge-brings p c.requires.edge.0 x c.reach-reach.ensures.limits c.requires.edge.1 in
    let s = found-sized p c.args.blocks.now x.to c.index-blocks-edge-2.result c.requires.blocks b.to in
    let cols = s.cols in let high = s.reach in let fits = b.land_cols in
    let place = land-col p x c.landing-y.result.1 c.cols-2.result c.reach-reach.result c.landing-y.ensures.column (c.cols-2.ensures.value ∙ cols) c.reach-reach.ensures.value in
    omega arith

pub returns-clause-blocks : goal.returns-clause-blocks
returns-clause-blocks c =
    let p = c.args.plan.now in let x = c.args.edge in
    let b = edge-brings p c.requires.edge.0 x c.reach-reach.ensures.limits c.requires.edge.1 in
    let s = found-sized p c.args.blocks.now x.to c.index-blocks-edge-2.result c.requires.blocks b.to in
    sized-set p c.args.blocks.now x.to c.put_cells.new.block c.requires.blocks b.to
    (put-sized p x.to c.landing-y.result.0 c.landing-y.result.1 x.rows x.cols _ _ c.put_cells.new.block s c.put_cells.ensures)

-- the cells in the receiver's block
brought : (c : goal.After-put_cells) (g : Plane) (rule : Rule) → Suit c.args.plan.now g rule → IsReady c.args.plan.now g rule c.args.blocks.now c.args.edge
    → (k j : ℕ) → k < c.args.edge.rows → j < c.args.edge.cols
    → HasRead c.args.plan.now g rule c.args.edge.to c.put_cells.new.block (land_row c.args.plan.now c.args.edge + k) (land_col c.args.plan.now c.args.edge + j)
brought c g rule suit ready =
    let p = c.args.plan.now in let x = c.args.edge in let blocks = c.args.blocks.now in
    let b = edge-brings p c.requires.edge.0 x c.reach-reach.ensures.limits c.requires.edge.1 in
    let far = c.reach-reach.ensures.value in
    let s = found-sized p blocks x.from c.index-blocks-edge.result c.requires.blocks b.from in
    let r = found-sized p blocks x.to c.index-blocks-edge-2.result c.requires.blocks b.to in
    cells-brought p g rule x blocks c.copy_cells.new.out c.put_cells.new.block (get_or blocks x.from c.index-blocks-edge.result) (get_or blocks x.to c.index-blocks-edge-2.result)
    c.leaving-y.result.0 c.leaving-y.result.1 c.landing-y.result.0 c.landing-y.result.1 b suit ready
    (block-found p blocks x.from c.index-blocks-edge.result c.requires.blocks b.from)
    (leave-row p x c.leaving-y.result.0 c.rows.result c.reach-reach.result c.leaving-y.ensures.row (c.rows.ensures.value ∙ s.rows) far)
    (leave-col p x c.leaving-y.result.1 c.cols.result c.reach-reach.result c.leaving-y.ensures.column (c.cols.ensures.value ∙ s.cols) far)
    (land-row p x c.landing-y.result.0 c.rows-2.result c.reach-reach.result c.landing-y.ensures.row (c.rows-2.ensures.value ∙ r.rows) far)
    (land-col p x c.landing-y.result.1 c.cols-2.result c.reach-reach.result c.landing-y.ensures.column (c.cols-2.ensures.value ∙ r.cols) far)
    c.copy_cells.ensures.cells
    (subst (λ (xs : List ℤ). IsPut c.landing-y.result.0 c.landing-y.result.1 x.rows x.cols xs (get_or blocks x.to c.index-blocks-edge-2.result) c.put_cells.new.block) c.pass.ensures.values c.put_cells.ensures)

pub returns-clause-keeps : goal.returns-clause-keeps
returns-clause-keeps c g rule suit ready =
    let p = c.args.plan.now in let x = c.args.edge in let blocks = c.args.blocks.now in
    let b = edge-brings p c.requires.edge.0 x c.reach-reach.ensures.limits c.requires.edge.1 in
    let far = c.reach-reach.ensures.value in
    let r = found-sized p blocks x.to c.index-blocks-edge-2.result c.requires.blocks b.to in
    let to = b.to in let count = c.requires.blocks.count in
    let receiver = get_or blocks x.to c.index-blocks-edge-2.result in
    keeps-set p g rule blocks x.to c.put_cells.new.block (omega arith)
    (subst (λ (q : Part). Holding p g rule x.to q c.put_cells.new.block) (block-found p blocks x.to c.index-blocks-edge-2.result c.requires.blocks b.to)
    (cells-keep p g rule x c.pass.new.out receiver c.put_cells.new.block c.landing-y.result.0 c.landing-y.result.1 r
    (land-row p x c.landing-y.result.0 c.rows-2.result c.reach-reach.result c.landing-y.ensures.row (c.rows-2.ensures.value ∙ r.rows) far)
    (land-col p x c.landing-y.result.1 c.cols-2.result c.reach-reach.result c.landing-y.ensures.column (c.cols-2.ensures.value ∙ r.cols) far)
    c.put_cells.ensures (brought c g rule suit ready)))

pub returns-clause-brought : goal.returns-clause-brought
returns-clause-brought c g rule suit ready =
    let p = c.args.plan.now in let x = c.args.edge in let blocks = c.args.blocks.now in
    let b = edge-brings p c.requires.edge.0 x c.reach-reach.ensures.limits c.requires.edge.1 in
    let to = b.to in let count = c.requires.blocks.count in
    brought-set p g rule x blocks c.put_cells.new.block (omega arith) (brought c g rule suit ready)
