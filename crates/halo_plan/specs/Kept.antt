-- What is kept of a plan.
use Rattle.std.specs.Prelude.{◌≡◌}
use Rattle.halo_plan.specs.declared.plan.HaloPlan.TheInside.{Inside}
use Rattle.halo_plan.specs.Plan.{IsPlan, Plan, message_of}

abbrev pub plan_of : Inside → Plan
plan_of k = record {
  rows = k.rows;
  cols = k.cols;
  ranks = k.ranks;
  send_parts = k.message.send_parts;
  recv_parts = k.message.recv_parts;
  grain = k.message.grain;
  depth = k.message.depth;
  reach = k.reach;
  around = k.around;
}

-- the message is that of the plan, which keeps the limits
pub record IsKept (k : Inside) : Type 0 where
  pub limits : IsPlan (plan_of k)
  pub message : k.message ≡ message_of (plan_of k)
