-- All ranks of a plan, as contracts see them: how they share the grid and pass rows has no part in it.
use Rattle.std.specs.Prelude.{ℕ, ◌+◌, ℤ, List}
use Rattle.std.specs.List.{flat_map, range_with_len}
use Rattle.stencil_def.specs.Plane.{Plane, plane_of}
use Rattle.stencil_def.specs.declared.rule.Rule.{Rule}
use Rattle.stencil_def.specs.Step.{fold_plane}
use Rattle.cell_lanes.specs.Block.{Part, own_cells}
use Rattle.halo_plan.specs.Plan.{Plan}

-- the plan and the rule, how many steps were made, and the grid after them
pub record Ranks : Type 0 where
  pub plan : Plan
  pub rule : Rule
  pub steps : ℕ
  pub grid : Plane

-- before the first step
abbrev pub first_ranks : Plan → Rule → Plane → Ranks
first_ranks p rule g = record { plan = p; rule = rule; steps = 0; grid = g }

-- after n steps more
abbrev pub ranks_after : Ranks → ℕ → Ranks
ranks_after r n = record r { steps = r.steps + n; grid = fold_plane r.grid r.rule n }

-- the own cells of a block, row by row
abbrev pub own_values : Part → List ℤ
own_values b = flat_map (own_cells b) (range_with_len 0 b.rows)

-- the grid whose rows the blocks have, one block under the other
unfoldable pub gathered : Plan → List Part → Plane
gathered p blocks = plane_of p.rows p.cols (flat_map own_values blocks)
