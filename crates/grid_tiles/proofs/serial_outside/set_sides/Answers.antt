use Rattle.std.proofs.Common.{◌∙◌, sym, subst, arith}
use Rattle.cell_lanes.specs.Block.{Part}
use Rattle.grid_tiles.specs.Tiles.{block_at}
use Rattle.grid_tiles.specs.Blocks.{AreSidesSet, IsSized}
use Rattle.grid_tiles.proofs.PassFacts.{block-found, each-next, rest-next, sized-set}
use Rattle.grid_tiles.proofs.ReadFacts.{sides-read}
use Rattle.grid_tiles.proofs.serial_outside.set_sides.Goals as goal

pub set_open_columns-requires-clause-size : goal.set_open_columns-requires-clause-size
set_open_columns-requires-clause-size c =
    let p = c.args.plan.now in let s = c.loop-t.invariant.blocks in
    let less = c.loop-t-test.true in let end = c.tile_count-t-end.ensures.value in
    subst (IsSized p c.loop-t.t) (sym (block-found p c.loop-t.blocks c.loop-t.t c.index-blocks-t.result s (omega arith))) (s.each c.loop-t.t (omega arith))

pub loop-t-preserved : goal.loop-t-preserved
loop-t-preserved c =
    let p = c.args.plan.now in let rule = c.args.rule.now in let t = c.loop-t.t in
    let i = c.loop-t.invariant in let s = i.blocks in let count = s.count in
    let less = c.loop-t-test.true in let end = c.tile_count-t-end.ensures.value in
    let b = c.set_open_columns.new.block in
    let same = block-found p c.loop-t.blocks t c.index-blocks-t.result s (omega arith) in
    record {
      blocks = sized-set p c.loop-t.blocks t b s (omega arith) c.set_open_columns.ensures.size;
      set = each-next (λ u q. AreSidesSet p rule u (block_at c.args.blocks.now u) q) c.loop-t.blocks t b (omega arith) i.set
          (subst (λ (q : Part). AreSidesSet p rule t q b) (same ∙ i.rest t (omega arith)) c.set_open_columns.ensures);
      rest = rest-next c.args.blocks.now c.loop-t.blocks t b i.rest;
    }

pub returns-clause-sides : goal.returns-clause-sides
returns-clause-sides c g suit own brought =
    let far = c.loop-t-test.false in let end = c.tile_count-t-end.ensures.value in
    sides-read c.args.plan.now g c.args.rule.now c.args.blocks.now c.loop-t.blocks c.tile_count-t-end.ensures.limits suit own brought
    (λ t less. c.loop-t.invariant.set t (omega arith))
