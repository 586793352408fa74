use Rattle.std.proofs.Common.{◌∙◌, refl, sym, ap, ◌+◌, arith}
use Rattle.grid_tiles.specs.declared.tile.Tile.{Tile}
use Rattle.grid_tiles.specs.Blocks.{left}
use Rattle.grid_tiles.proofs.OutsideFacts.{columns-next, columns-none, found}
use Rattle.grid_tiles.proofs.serial_outside.set_columns.Goals as goal

pub loop-k-init : goal.loop-k-init
loop-k-init c = columns-none c.args.plan.now c.args.rule.now c.args.t c.args.from c.args.block.now c.requires.size

pub set_column-requires-clause-own : goal.set_column-requires-clause-own
set_column-requires-clause-own c col is =
    let p = c.args.plan.now in let rule = c.args.rule.now in
    let same = found rule.around c.cols.result p.cols c.tile-first.result.first_col (left p c.args.t) (c.args.from + c.loop-k.k) rule.weights.reach p.shape.reach
    c.cols.ensures.value (ap (λ (x : Tile). x.first_col) c.tile-first.ensures.value) c.requires.reach in
    let cols = c.loop-k.invariant.size.cols in
    let less = c.loop-k-test.true in let end = c.reach-k-end.ensures.value in
    let h = (c.requires.own c.loop-k.k col (omega arith) (sym same ∙ is)).0 in omega arith

pub loop-k-preserved : goal.loop-k-preserved
loop-k-preserved c =
    let p = c.args.plan.now in let rule = c.args.rule.now in let k = c.loop-k.k in
    let same = found rule.around c.cols.result p.cols c.tile-first.result.first_col (left p c.args.t) (c.args.from + k) rule.weights.reach p.shape.reach
    c.cols.ensures.value (ap (λ (x : Tile). x.first_col) c.tile-first.ensures.value) c.requires.reach in
    let less = c.loop-k-test.true in let end = c.reach-k-end.ensures.value in
    let inside = c.tile-first.ensures.inside in let cols = ap (λ (x : Tile). x.cols) c.tile-first.ensures.value in
    columns-next p rule c.args.t c.args.from k (c.args.from + k) c.loop-k.block.rows _ c.args.block.now c.loop-k.block c.set_column.new.block
    c.loop-k.invariant c.requires.own (omega arith) c.requires.room refl c.set_column.ensures refl same (omega arith)
