use Rattle.std.proofs.Common.{◌∙◌, ap, ◌+◌, [], ◌∷◌, length, length-append}
use Rattle.halo_plan.specs.Plan.{shape_of}
use Rattle.rank_task.specs.Blocks.{IsResting, no_pair}
use Rattle.rank_task.proofs.GridFacts.{pushed}
use Rattle.rank_task.proofs.RestFacts.{resting-from}
use Rattle.rank_task.proofs.serial_blocks.all_pairs.Goals as goal

pub loop-e-preserved : goal.loop-e-preserved
loop-e-preserved c =
    let g = shape_of c.args.plan.now in
    let i = c.loop-e.invariant in
    let old = c.loop-e.pairs.items in let new = c.push.new.self.items in
    let is = c.in_ok-push.ensures.items in
    let pair = c.in_ok-pair_at_rest.field-0 in
    record {
      count = ap length is ∙ length-append old (pair ∷ []) ∙ ap (λ n. n + 1) i.count;
      rest = pushed (λ e q. IsResting g 0 q) old new pair no_pair c.loop-e._e is i.count i.rest (resting-from g 0 pair c.in_ok-pair_at_rest.ensures);
    }
