use Rattle.std.proofs.Common.{◌∙◌, ap, ◌+◌, [], ◌∷◌, length, length-append}
use Rattle.cell_lanes.specs.Block.{HoldsOwn}
use Rattle.halo_plan.specs.Plan.{first_row}
use Rattle.rank_task.specs.Blocks.{IsSized, no_part}
use Rattle.rank_task.proofs.GridFacts.{pushed}
use Rattle.rank_task.proofs.serial_blocks.all_blocks.Goals as goal

pub loop-i-preserved : goal.loop-i-preserved
loop-i-preserved c =
    let p = c.args.plan.now in
    let i = c.loop-i.invariant in
    let old = c.loop-i.blocks.items in let new = c.push.new.self.items in
    let is = c.in_ok-push.ensures.items in
    let b = c.in_ok-block_of.field-0 in
    record {
      count = ap length is ∙ length-append old (b ∷ []) ∙ ap (λ n. n + 1) i.count;
      size = pushed (IsSized p) old new b no_part c.loop-i.i is i.count i.size c.in_ok-block_of.ensures.size;
      own = pushed (λ j q. HoldsOwn c.args.grid.now (first_row p j) 0 q) old new b no_part c.loop-i.i is i.count i.own c.in_ok-block_of.ensures.own;
    }
