-- What is kept of a plan.
use Rattle.grid_tiles.specs.declared.plan.TilePlan.TheInside.{Inside}
use Rattle.grid_tiles.specs.Plan.{IsPlan, Plan}

abbrev pub plan_of : Inside → Plan
plan_of k = record {
  rows = k.rows;
  cols = k.cols;
  tile_rows = k.tile_rows;
  tile_cols = k.tile_cols;
  shape = k.shape;
}

-- it keeps the limits
abbrev pub IsKept : Inside → Type 0
IsKept k = IsPlan (plan_of k)
