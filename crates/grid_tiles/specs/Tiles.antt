-- All tiles of a plan, as contracts see them: how they share the grid and pass cells has no part in it.
use Rattle.std.specs.Prelude.{ℕ, ◌+◌, ℤ, List, [], slice_index_or}
use Rattle.std.specs.List.{flat_map, range_with_len}
use Rattle.stencil_def.specs.Plane.{Plane, plane_of}
use Rattle.stencil_def.specs.declared.rule.Rule.{Rule}
use Rattle.stencil_def.specs.Step.{fold_plane}
use Rattle.cell_lanes.specs.Block.{Part, own_cells, part_of}
use Rattle.grid_tiles.specs.Plan.{Plan, number, rows_of}

-- the plan and the rule, how many steps were made, and the grid after them
pub record Tiles : Type 0 where
  pub plan : Plan
  pub rule : Rule
  pub steps : ℕ
  pub grid : Plane

-- before the first step
abbrev pub first_tiles : Plan → Rule → Plane → Tiles
first_tiles p rule g = record { plan = p; rule = rule; steps = 0; grid = g }

-- after n steps more
abbrev pub tiles_after : Tiles → ℕ → Tiles
tiles_after r n = record r { steps = r.steps + n; grid = fold_plane r.grid r.rule n }

-- block t of a list; nothing is said of what stands behind the last
abbrev pub block_at : List Part → ℕ → Part
block_at blocks t = slice_index_or blocks t (part_of 0 0 0 [])

-- a row of the grid: the own cells of that row of each tile in row a of the tiles, from the left
abbrev pub whole_row : Plan → List Part → ℕ → ℕ → List ℤ
whole_row p blocks a row =
    flat_map (λ b. own_cells (block_at blocks (number p a b)) row) (range_with_len 0 p.tile_cols)

-- all rows of the tiles in row a of the tiles
abbrev pub whole_rows : Plan → List Part → ℕ → List ℤ
whole_rows p blocks a = flat_map (whole_row p blocks a) (range_with_len 0 (rows_of p a))

-- the grid whose cells the blocks have, row by row
unfoldable pub gathered : Plan → List Part → Plane
gathered p blocks = plane_of p.rows p.cols (flat_map (whole_rows p blocks) (range_with_len 0 p.tile_rows))
