use Rattle.std.proofs.Common.{◌≡◌, ◌∙◌, sym, ap, subst, ◌+◌, ◌-◌, ◌*◌, length, take, drop, length-take-le, arith}
use Rattle.std.specs.List.{All}
use Rattle.std.proofs.lemmas.List.{length-drop}
use Rattle.std.proofs.lemmas.List.Elements.{All-take, All-drop}
use Rattle.stencil_def.specs.Limits.{IsValue}
use Rattle.stencil_def.specs.Plane.{row_of}
use Rattle.cell_lanes.specs.Block.{Part}
use Rattle.grid_tiles.specs.declared.tile.Tile.{Tile}
use Rattle.grid_tiles.specs.Blocks.{left, top}
use Rattle.grid_tiles.proofs.GridFacts.{fill-next, row-room-of}
use Rattle.grid_tiles.proofs.Planning.{tile-wide}
use Rattle.grid_tiles.proofs.serial_blocks.block_of.Goals as goal

pub slice_bounds-cells-end : goal.slice_bounds-cells-end
slice_bounds-cells-end c =
    let p = c.args.plan.now in let g = c.args.grid.now in
    let tile = c.tile-tile.ensures.value in
    let first = ap (λ (x : Tile). x.first_row) tile in let rows = ap (λ (x : Tile). x.rows) tile in
    let start = ap (λ (x : Tile). x.first_col) tile in let cols = ap (λ (x : Tile). x.cols) tile in
    let less = c.loop-row-test.true in
    let room = row-room-of p g c.args.t c.loop-row.row c.reach-reach.ensures.limits c.requires.tile c.row.ensures.limits.length c.requires.rows c.requires.cols (omega arith) in
    let long = ap length (c.row.ensures.values ∙ ap (λ n. row_of g (n + c.loop-row.row)) first) in
    omega arith

pub put-requires-clause-values : goal.put-requires-clause-values
put-requires-clause-values c =
    let start = c.tile-tile.result.first_col in let n = start + c.tile-tile.result.cols - start in
    All-take IsValue n (drop start c.row.result.now) (All-drop IsValue start c.row.result.now
    (subst (All IsValue) (sym c.row.ensures.values)
    (All-take IsValue c.args.grid.now.cols (drop ((c.tile-tile.result.first_row + c.loop-row.row) * c.args.grid.now.cols) c.args.grid.now.values)
    (All-drop IsValue ((c.tile-tile.result.first_row + c.loop-row.row) * c.args.grid.now.cols) c.args.grid.now.values c.row.ensures.limits.values))))

pub loop-row-preserved : goal.loop-row-preserved
loop-row-preserved c =
    let p = c.args.plan.now in let g = c.args.grid.now in let row = c.loop-row.row in
    let tile = c.tile-tile.ensures.value in let v = c.reach-reach.ensures.limits in
    let first = ap (λ (x : Tile). x.first_row) tile in let rows = ap (λ (x : Tile). x.rows) tile in
    let start = ap (λ (x : Tile). x.first_col) tile in let cols = ap (λ (x : Tile). x.cols) tile in
    let less = c.loop-row-test.true in
    let i = c.loop-row.invariant in let s = i.size in let many = s.rows in let wide' = s.cols in let high = s.reach in
    let far = c.reach-reach.ensures.value in
    let room = row-room-of p g c.args.t row v c.requires.tile c.row.ensures.limits.length c.requires.rows c.requires.cols (omega arith) in
    let is = c.row.ensures.values ∙ ap (λ n. row_of g (n + row)) first in
    let long = ap length is in
    let end = c.tile-tile.result.first_col + c.tile-tile.result.cols in
    let rest = length-drop c.tile-tile.result.first_col c.row.result.now in
    let cells = take (end - c.tile-tile.result.first_col) (drop c.tile-tile.result.first_col c.row.result.now) in
    let size : length cells ≡ c.loop-row.block.cols = length-take-le (end - c.tile-tile.result.first_col) (drop c.tile-tile.result.first_col c.row.result.now) (omega arith) ∙ omega arith in
    let fits = tile-wide p c.args.t v c.requires.tile in let same = c.requires.cols in
    record {
      size = record {
        rows = ap (λ (q : Part). q.rows) c.put.ensures.put ∙ s.rows;
        cols = ap (λ (q : Part). q.cols) c.put.ensures.put ∙ s.cols;
        reach = ap (λ (q : Part). q.reach) c.put.ensures.put ∙ s.reach;
        limits = c.put.ensures.limits;
      };
      own = fill-next g (top p c.args.t) (left p c.args.t) row c.reach-reach.result end c.loop-row.block c.put.new.self cells s.limits i.own (omega arith) (omega arith) (omega arith)
          (λ j. take (end - start j) (drop (start j) (is j))) size (omega arith) c.put.ensures.put;
    }

pub returns-clause-own : goal.returns-clause-own
returns-clause-own c row col low lt =
    let far = c.loop-row-test.false in let s = c.loop-row.invariant.size in let rows = s.rows in
    let many = ap (λ (x : Tile). x.rows) c.tile-tile.ensures.value in
    c.loop-row.invariant.own row col (omega arith) lt
