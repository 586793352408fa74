-- Which numbers make a plan.
use Rattle.std.specs.Prelude.{ℕ, ◌*◌, Bool, ◌&&◌, nat_le, nat_lt, if◌then◌else◌, Result, Ok, Err}
use Rattle.halo_plan.specs.declared.plan.PlanFault.{PlanFault}
use Rattle.halo_plan.specs.declared.plan.PlanFault.TheVariants.{TooManyRanks}
use Rattle.halo_plan.specs.Plan.{Plan}

-- there are two ranks or more, and together they need more rows than there are
abbrev pub needs_more : ℕ → ℕ → ℕ → Bool
needs_more rows ranks reach = nat_le 2 ranks && nat_lt rows (ranks * reach)

-- no other cause refuses a plan, so a shape is never refused
abbrev pub plan_answer : Plan → Result Plan PlanFault
plan_answer p = if needs_more p.rows p.ranks p.reach then Err (TooManyRanks p.ranks p.rows) else Ok p
