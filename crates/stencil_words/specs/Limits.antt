-- The limits that what was read keeps.
use Rattle.std.specs.Prelude.{◌≡◌, ◌*◌, ◌<◌, ◌≤◌, ◌^◌, None, IfSome, IsSome, IsTrue, ⊤}
use Rattle.part_geometry.specs.declared.TheConstants.{MAX_DEPTH, MAX_GRAIN, MAX_PARTS, MAX_RANKS}
use Rattle.stencil_def.specs.Limits.{IsSide, IsValue, IsWithin}
use Rattle.stencil_def.specs.declared.limits.TheConstants.{MAX_CELLS, MAX_DIV}
use Rattle.cell_lanes.specs.Change.{IsChange}
use Rattle.halo_message.specs.Message.{shares_few}
use Rattle.stencil_words.specs.declared.words.TheConstants.{MAX_STEPS}
use Rattle.stencil_words.specs.declared.words.PlanWords.{PlanWords}
use Rattle.stencil_words.specs.declared.words.Size.{Size}
use Rattle.stencil_words.specs.declared.words.Source.{Source}
use Rattle.stencil_words.specs.declared.words.Source.TheVariants.{Grid, Make}
use Rattle.stencil_words.specs.declared.words.StencilWords.{StencilWords}
use Rattle.stencil_words.specs.declared.words.TileWords.{TileWords}

-- the limits of the generator
pub record IsSize (size : Size) : Type 0 where
  pub seed_limit : size.seed < 2 ^ 31
  pub rows_limits : IsSide size.rows
  pub cols_limits : IsSide size.cols
  pub cells_limit : size.rows * size.cols ≤ MAX_CELLS

abbrev pub IsSource : Source → Type 0
IsSource (Grid grid weights) = ⊤
IsSource (Make size weights) = IsSize size

-- the limits of the plan
pub record IsPlanRead (p : PlanWords) : Type 0 where
  pub ranks_limits : IsWithin 1 MAX_RANKS p.ranks
  pub send_parts_limits : IsWithin 1 MAX_PARTS p.send_parts
  pub recv_parts_limits : IsWithin 1 MAX_PARTS p.recv_parts
  pub multiple_limit : IsTrue (shares_few p.send_parts p.recv_parts)
  pub grain_limits : IsWithin 1 MAX_GRAIN p.grain
  pub depth_limits : IsWithin 1 MAX_DEPTH p.depth

-- the limits of tiles: there are as many as there may be ranks
pub record IsTileRead (t : TileWords) : Type 0 where
  pub rows_limits : IsWithin 1 MAX_RANKS t.rows
  pub cols_limits : IsWithin 1 MAX_RANKS t.cols
  pub tiles_limit : t.rows * t.cols ≤ MAX_RANKS

-- the limits of all that the words say
pub record IsRead (w : StencilWords) : Type 0 where
  pub source_limits : IsSource w.source
  pub steps_limit : w.steps ≤ MAX_STEPS
  pub plan_limits : IsPlanRead w.plan
  pub tiles_limits : IfSome w.tiles IsTileRead
  pub div_limits : IsWithin 1 MAX_DIV w.div
  pub edge_limits : IsValue w.edge
  pub until_limits : IfSome w.until IsChange
  -- with tiles all steps are made
  pub tiles_alone : IsSome w.tiles → w.until ≡ None
