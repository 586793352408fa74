use Rattle.std.proofs.Common.{◌∙◌, ap, ◌+◌, [], ◌∷◌, length, length-append}
use Rattle.cell_lanes.specs.Block.{HoldsOwn, part_of}
use Rattle.grid_tiles.specs.Blocks.{IsSized, left, top}
use Rattle.grid_tiles.proofs.GridFacts.{pushed}
use Rattle.grid_tiles.proofs.serial_blocks.all_blocks.Goals as goal

pub loop-t-preserved : goal.loop-t-preserved
loop-t-preserved c =
    let p = c.args.plan.now in
    let i = c.loop-t.invariant in
    let old = c.loop-t.blocks.items in let new = c.push.new.self.items in
    let is = c.in_ok-push.ensures.items in
    let b = c.in_ok-block_of.field-0 in
    record {
      count = ap length is ∙ length-append old (b ∷ []) ∙ ap (λ n. n + 1) i.count;
      size = pushed (IsSized p) old new b (part_of 0 0 0 []) c.loop-t.t is i.count i.size c.in_ok-block_of.ensures.size;
      own = pushed (λ t q. HoldsOwn c.args.grid.now (top p t) (left p t) q) old new b (part_of 0 0 0 []) c.loop-t.t is i.count i.own c.in_ok-block_of.ensures.own;
    }
