use Rattle.std.proofs.Common.{◌∙◌, refl, sym, ap, ◌+◌, arith}
use Rattle.grid_tiles.specs.declared.tile.Tile.{Tile}
use Rattle.grid_tiles.specs.Blocks.{top}
use Rattle.grid_tiles.proofs.OutsideFacts.{found, rows-next, rows-none}
use Rattle.grid_tiles.proofs.serial_outside.set_rows.Goals as goal

pub loop-k-init : goal.loop-k-init
loop-k-init c = record { set = rows-none c.args.plan.now c.args.rule.now c.args.t c.args.from c.args.block.now c.requires.size; values = c.requires.values }

pub set_row-requires-clause-own : goal.set_row-requires-clause-own
set_row-requires-clause-own c row is =
    let p = c.args.plan.now in let rule = c.args.rule.now in
    let same = found rule.around c.rows.result p.rows c.tile-first.result.first_row (top p c.args.t) (c.args.from + c.loop-k.k) rule.weights.reach p.shape.reach
    c.rows.ensures.value (ap (λ (x : Tile). x.first_row) c.tile-first.ensures.value) c.requires.reach in
    let rows = c.loop-k.invariant.set.size.rows in
    let less = c.loop-k-test.true in let end = c.reach-k-end.ensures.value in
    let h = (c.requires.own c.loop-k.k row (omega arith) (sym same ∙ is)).0 in omega arith

pub set_row-requires-clause-room : goal.set_row-requires-clause-room
set_row-requires-clause-room c =
    let s = c.loop-k.invariant.set.size in let cols = s.cols in let high = s.reach in let long = c.loop-k.auto.room in let room = c.requires.room in
    omega arith

pub loop-k-preserved : goal.loop-k-preserved
loop-k-preserved c =
    let p = c.args.plan.now in let rule = c.args.rule.now in let k = c.loop-k.k in
    let same = found rule.around c.rows.result p.rows c.tile-first.result.first_row (top p c.args.t) (c.args.from + k) rule.weights.reach p.shape.reach
    c.rows.ensures.value (ap (λ (x : Tile). x.first_row) c.tile-first.ensures.value) c.requires.reach in
    let less = c.loop-k-test.true in let end = c.reach-k-end.ensures.value in
    let inside = c.tile-first.ensures.inside in let rows = ap (λ (x : Tile). x.rows) c.tile-first.ensures.value in
    record {
      set = rows-next p rule c.args.t c.args.from k (c.args.from + k) _ c.args.block.now c.loop-k.block c.set_row.new.block
          c.loop-k.invariant.set c.requires.own (omega arith) refl c.set_row.ensures.row same (omega arith);
      values = c.set_row.ensures.values;
    }
