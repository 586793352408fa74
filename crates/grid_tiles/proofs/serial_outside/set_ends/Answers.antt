use Rattle.std.proofs.Common.{◌∙◌, sym, subst, arith}
use Rattle.cell_lanes.specs.Block.{Part}
use Rattle.grid_tiles.specs.Tiles.{block_at}
use Rattle.grid_tiles.specs.Blocks.{AreEndsSet, IsSized}
use Rattle.grid_tiles.proofs.PassFacts.{block-found, each-next, rest-next, sized-set}
use Rattle.grid_tiles.proofs.Planning.{tile-wide}
use Rattle.grid_tiles.proofs.ReadFacts.{all-read}
use Rattle.grid_tiles.proofs.serial_outside.set_ends.Goals as goal

pub set_open_rows-requires-clause-size : goal.set_open_rows-requires-clause-size
set_open_rows-requires-clause-size c =
    let p = c.args.plan.now in let s = c.loop-t.invariant.blocks in
    let less = c.loop-t-test.true in let end = c.tile_count-t-end.ensures.value in
    subst (IsSized p c.loop-t.t) (sym (block-found p c.loop-t.blocks c.loop-t.t c.index-blocks-t.result s (omega arith))) (s.each c.loop-t.t (omega arith))

pub set_open_rows-requires-clause-room : goal.set_open_rows-requires-clause-room
set_open_rows-requires-clause-room c =
    let p = c.args.plan.now in
    let less = c.loop-t-test.true in let end = c.tile_count-t-end.ensures.value in
    let wide = tile-wide p c.loop-t.t c.tile_count-t-end.ensures.limits (omega arith) in
    let long = c.loop-t.auto.room in let room = c.requires.room in let near = c.tile_count-t-end.ensures.limits.shape.reach in
    omega arith

pub loop-t-preserved : goal.loop-t-preserved
loop-t-preserved c =
    let p = c.args.plan.now in let rule = c.args.rule.now in let t = c.loop-t.t in
    let i = c.loop-t.invariant in let s = i.blocks in let count = s.count in
    let less = c.loop-t-test.true in let end = c.tile_count-t-end.ensures.value in
    let b = c.set_open_rows.new.block in
    let same = block-found p c.loop-t.blocks t c.index-blocks-t.result s (omega arith) in
    record {
      blocks = sized-set p c.loop-t.blocks t b s (omega arith) c.set_open_rows.ensures.set.size;
      set = each-next (λ u q. AreEndsSet p rule u (block_at c.args.blocks.now u) q) c.loop-t.blocks t b (omega arith) i.set
          (subst (λ (q : Part). AreEndsSet p rule t q b) (same ∙ i.rest t (omega arith)) c.set_open_rows.ensures.set);
      values = c.set_open_rows.ensures.values;
      rest = rest-next c.args.blocks.now c.loop-t.blocks t b i.rest;
    }

pub returns-clause-all : goal.returns-clause-all
returns-clause-all c g suit sides brought =
    let far = c.loop-t-test.false in let end = c.tile_count-t-end.ensures.value in
    all-read c.args.plan.now g c.args.rule.now c.args.blocks.now c.loop-t.blocks c.tile_count-t-end.ensures.limits suit sides brought
    (λ t less. c.loop-t.invariant.set t (omega arith))
