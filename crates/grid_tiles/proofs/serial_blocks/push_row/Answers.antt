use Rattle.std.proofs.Common.{◌∙◌, ap, ◌+◌, ◌*◌, ◌++◌, arith}
use Rattle.cell_lanes.specs.Block.{Part, own_cells}
use Rattle.grid_tiles.specs.Plan.{number}
use Rattle.grid_tiles.specs.Tiles.{block_at}
use Rattle.grid_tiles.proofs.BringFacts.{tall-of}
use Rattle.grid_tiles.proofs.GridFacts.{rows-more}
use Rattle.grid_tiles.proofs.PassFacts.{found-at}
use Rattle.grid_tiles.proofs.Planning.{number-inside}
use Rattle.grid_tiles.proofs.serial_blocks.push_row.Goals as goal

pub bounds-blocks-a : goal.bounds-blocks-a
bounds-blocks-a c =
    let p = c.args.plan.now in let less = c.loop-b-test.true in let cols = c.tile_cols-count.ensures.value in
    let inside = number-inside p c.args.a c.loop-b.b c.requires.a (omega arith) in let count = c.requires.blocks.count in
    let same = ap (λ n. c.args.a * n + c.loop-b.b) cols in
    omega arith

pub own_row-requires : goal.own_row-requires
own_row-requires c =
    let p = c.args.plan.now in let less = c.loop-b-test.true in let cols = c.tile_cols-count.ensures.value in
    let low = c.requires.row in
    let same = found-at p c.args.blocks.now c.args.a c.loop-b.b c.tile_cols-count.result c.index-blocks-a.result c.requires.blocks cols c.requires.a (omega arith) c.index-blocks-a.is in
    let rows = ap (λ (q : Part). q.rows) same in
    let size = (c.requires.blocks.each (number p c.args.a c.loop-b.b) (number-inside p c.args.a c.loop-b.b c.requires.a (omega arith))).rows in
    let many = tall-of p c.args.a c.loop-b.b (omega arith) in
    omega arith

pub loop-b-preserved : goal.loop-b-preserved
loop-b-preserved c =
    let p = c.args.plan.now in let less = c.loop-b-test.true in let cols = c.tile_cols-count.ensures.value in
    let same = found-at p c.args.blocks.now c.args.a c.loop-b.b c.tile_cols-count.result c.index-blocks-a.result c.requires.blocks cols c.requires.a (omega arith) c.index-blocks-a.is in
    rows-more (λ b. own_cells (block_at c.args.blocks.now (number p c.args.a b)) c.args.row) c.args.values.now.items c.loop-b.values.items c.extend_from_slice.new.self.items c.loop-b.b c.loop-b.invariant
    (c.in_ok-extend_from_slice.ensures.items ∙ ap (λ xs. c.loop-b.values.items ++ xs) (c.own_row.ensures.value ∙ ap (λ (q : Part). own_cells q c.args.row) same))
