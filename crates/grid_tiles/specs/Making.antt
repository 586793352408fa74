-- Which numbers make a plan.
use Rattle.std.specs.Prelude.{ℕ, ◌*◌, Bool, ◌&&◌, ◌||◌, nat_le, nat_lt, if◌then◌else◌, Result, Ok, Err}
use Rattle.grid_tiles.specs.declared.plan.TileFault.{TileFault}
use Rattle.grid_tiles.specs.declared.plan.TileFault.TheVariants.{TooManyTiles}
use Rattle.grid_tiles.specs.Plan.{Plan}

-- there are two parts or more, and together they need more rows, or columns, than there are
abbrev pub needs_more : ℕ → ℕ → ℕ → Bool
needs_more size parts reach = nat_le 2 parts && nat_lt size (parts * reach)

-- no other cause refuses a plan
abbrev pub plan_answer : Plan → Result Plan TileFault
plan_answer p =
    if needs_more p.rows p.tile_rows p.shape.reach || needs_more p.cols p.tile_cols p.shape.reach
    then Err (TooManyTiles p.tile_rows p.tile_cols p.rows p.cols)
    else Ok p
