-- What is kept of all tiles.
use Rattle.std.specs.Prelude.{◌≡◌, ◌≤◌}
use Rattle.part_geometry.specs.declared.TheConstants.{LAST_ROUND}
use Rattle.stencil_def.specs.Plane.{IsPlane}
use Rattle.grid_tiles.specs.declared.serial.SerialTiles.TheInside.{Inside}
use Rattle.grid_tiles.specs.Tiles.{Tiles, gathered}
use Rattle.grid_tiles.specs.Blocks.{AreLinked, AreSized, HasRoom, HoldGrid, Suit}

abbrev pub tiles_of : Inside → Tiles
tiles_of k = record { plan = k.plan; rule = k.rule; steps = k.steps; grid = gathered k.plan k.blocks.items }

-- the blocks have the grid's cells, and each pair has had a round for each step
pub record AreKept (k : Inside) : Type 0 where
  pub plane : IsPlane (gathered k.plan k.blocks.items)
  pub suit : Suit k.plan (gathered k.plan k.blocks.items) k.rule
  pub weights : k.weights ≡ k.rule.weights
  pub divisor : k.divisor ≡ k.rule.div
  pub sized : AreSized k.plan k.blocks.items
  pub own : HoldGrid k.plan (gathered k.plan k.blocks.items) k.blocks.items
  pub links : AreLinked k.plan k.steps 0 k.links.items
  pub few : k.steps ≤ LAST_ROUND
  pub room : HasRoom k.scratch
