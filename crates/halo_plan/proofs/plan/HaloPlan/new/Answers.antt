use Rattle.std.proofs.Common.{◌∙◌, sym}
use Rattle.halo_plan.specs.Plan.{IsPlan, Plan}
use Rattle.halo_plan.proofs.Planning.{few-values, fits-from, kept}
use Rattle.halo_plan.proofs.plan.HaloPlan.new.Goals as goal

pub new-message-requires-clause-values : goal.new-message-requires-clause-values
new-message-requires-clause-values c = few-values c.args.reach c.args.cols c.requires.reach c.requires.cols

pub invariant_of-result : goal.invariant_of-result
invariant_of-result c =
    let a = c.args in let q = c.requires in
    let p : Plan = record { rows = a.rows; cols = a.cols; ranks = a.ranks; send_parts = a.send_parts; recv_parts = a.recv_parts; grain = a.grain; depth = a.depth; reach = a.reach; around = a.around } in
    let s : IsPlan p = record {
      rows = q.rows;
      cols = q.cols;
      cells = q.cells;
      ranks = q.ranks;
      fit = fits-from a.rows a.ranks a.reach (sym c.needs_more.ensures ∙ c.if-needs_more.false);
      send_parts = q.send_parts;
      recv_parts = q.recv_parts;
      multiple = q.multiple;
      grain = q.grain;
      depth = q.depth;
      reach = q.reach;
    } in
    kept p c.new-message.result s c.new-message.ensures.value
