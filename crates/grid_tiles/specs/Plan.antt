-- A plan of tiles: how the rows and the columns of a grid go to tiles.
use Rattle.std.specs.Prelude.{◌⊎◌, ℕ, ◌+◌, ◌-◌, ◌*◌, ◌/◌, ◌%◌, ◌≤◌, IsTrue}
use Rattle.part_geometry.specs.declared.TheConstants.{MAX_DEPTH, MAX_GRAIN, MAX_PARTS, MAX_RANKS}
use Rattle.part_geometry.specs.Shape.{IsWithin}
use Rattle.stencil_def.specs.declared.limits.TheConstants.{MAX_CELLS}
use Rattle.stencil_def.specs.Limits.{IsSide}
use Rattle.halo_message.specs.Message.{shares_few}
use Rattle.grid_tiles.specs.declared.tile.Tile.{Tile}
use Rattle.grid_tiles.specs.declared.tile.TileShape.{TileShape}

-- the rows and columns of the grid, how many rows and columns of tiles there are, and what their messages are like
pub record Plan : Type 0 where
  pub rows : ℕ
  pub cols : ℕ
  pub tile_rows : ℕ
  pub tile_cols : ℕ
  pub shape : TileShape

-- where part i begins of n rows, or columns, that are cut into so many parts
abbrev pub cut_at : ℕ → ℕ → ℕ → ℕ
cut_at n parts i = i * n / parts

-- the first row of the tiles in row a of the tiles, and the first column of those in column b
abbrev pub first_row : Plan → ℕ → ℕ
first_row p a = cut_at p.rows p.tile_rows a

abbrev pub first_col : Plan → ℕ → ℕ
first_col p b = cut_at p.cols p.tile_cols b

-- how many rows and columns the tile in row a and column b has: up to and without the first one of the next
abbrev pub rows_of : Plan → ℕ → ℕ
rows_of p a = first_row p (a + 1) - first_row p a

abbrev pub cols_of : Plan → ℕ → ℕ
cols_of p b = first_col p (b + 1) - first_col p b

-- how many tiles there are, and the number of the one in row a and column b
abbrev pub tiles : Plan → ℕ
tiles p = p.tile_rows * p.tile_cols

abbrev pub number : Plan → ℕ → ℕ → ℕ
number p a b = a * p.tile_cols + b

-- the tile in row a and column b
abbrev pub part : Plan → ℕ → ℕ → Tile
part p a b = record {
  first_row = first_row p a;
  rows = rows_of p a;
  first_col = first_col p b;
  cols = cols_of p b;
}

-- tile t, counted row by row
abbrev pub tile_of : Plan → ℕ → Tile
tile_of p t = part p (t / p.tile_cols) (t % p.tile_cols)

-- the limits of messages between tiles
pub record IsTileShape (s : TileShape) : Type 0 where
  pub send_parts : IsWithin 1 MAX_PARTS s.send_parts
  pub recv_parts : IsWithin 1 MAX_PARTS s.recv_parts
  pub multiple : IsTrue (shares_few s.send_parts s.recv_parts)
  pub grain : IsWithin 1 MAX_GRAIN s.grain
  pub depth : IsWithin 1 MAX_DEPTH s.depth
  pub reach : IsWithin 1 2 s.reach

-- the limits of a plan: as many tiles as there may be ranks; with two rows of tiles or more, each has as many rows as
-- the weights reach, and so with columns
pub record IsPlan (p : Plan) : Type 0 where
  pub rows : IsSide p.rows
  pub cols : IsSide p.cols
  pub cells : p.rows * p.cols ≤ MAX_CELLS
  pub tile_rows : IsWithin 1 MAX_RANKS p.tile_rows
  pub tile_cols : IsWithin 1 MAX_RANKS p.tile_cols
  pub tiles : tiles p ≤ MAX_RANKS
  pub rows_fit : (p.tile_rows ≤ 1) ⊎ (p.tile_rows * p.shape.reach ≤ p.rows)
  pub cols_fit : (p.tile_cols ≤ 1) ⊎ (p.tile_cols * p.shape.reach ≤ p.cols)
  pub shape : IsTileShape p.shape
