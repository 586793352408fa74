-- The blocks and the messages of all tiles while a step is made: for private functions.
use Rattle.std.specs.Prelude.{◌≡◌, ℕ, ◌+◌, ◌*◌, ◌/◌, ◌%◌, ◌<◌, ◌≤◌, ◌==◌, ◌&&◌, if◌then◌else◌, Bool, true}
use Rattle.std.specs.Prelude.{nat_le, nat_lt, ℤ, pos, ◌-ℤ◌, List, Option, Some, None}
use Rattle.std.specs.Prelude.{length, slice_get, slice_index_or}
use Rattle.std.specs.List.{All}
use Rattle.stencil_def.specs.Limits.{IsValue}
use Rattle.stencil_def.specs.Plane.{Plane}
use Rattle.stencil_def.specs.declared.rule.Rule.{Rule}
use Rattle.stencil_def.specs.Step.{place, read}
use Rattle.halo_message.specs.declared.TheConstants.{ELEMENT_BYTES, MAX_MULTIPLE, MAX_VALUES}
use Rattle.halo_message.specs.Passing.{RestsAt}
use Rattle.cell_lanes.specs.Block.{Part, HoldsOwn, IsPart, SameSize, at, width}
use Rattle.grid_tiles.specs.declared.TheConstants.{DOWN, LEFT, RIGHT}
use Rattle.grid_tiles.specs.declared.serial_edges.Link.{Link}
use Rattle.grid_tiles.specs.declared.serial_edges.Scratch.{Scratch}
use Rattle.grid_tiles.specs.declared.tile.TileEdge.{TileEdge}
use Rattle.grid_tiles.specs.Plan.{Plan, cols_of, first_col, first_row, rows_of, tiles}
use Rattle.grid_tiles.specs.Edges.{edges, message_of, nexts, shape_of}
use Rattle.grid_tiles.specs.Tiles.{block_at}

-- tile t's first row and column, and how many it has
abbrev pub top : Plan → ℕ → ℕ
top p t = first_row p (t / p.tile_cols)

abbrev pub left : Plan → ℕ → ℕ
left p t = first_col p (t % p.tile_cols)

abbrev pub tall : Plan → ℕ → ℕ
tall p t = rows_of p (t / p.tile_cols)

abbrev pub wide : Plan → ℕ → ℕ
wide p t = cols_of p (t % p.tile_cols)

-- a block has the size of tile t's
pub record IsSized (p : Plan) (t : ℕ) (b : Part) : Type 0 where
  pub rows : b.rows ≡ tall p t
  pub cols : b.cols ≡ wide p t
  pub reach : b.reach ≡ p.shape.reach
  pub limits : IsPart b

-- a block for each tile
pub record AreSized (p : Plan) (blocks : List Part) : Type 0 where
  pub count : length blocks ≡ tiles p
  pub each : (t : ℕ) → t < tiles p → IsSized p t (block_at blocks t)

-- the blocks have the cells of a grid
abbrev pub HoldGrid : Plan → Plane → List Part → Type 0
HoldGrid p g blocks = (t : ℕ) → t < tiles p → HoldsOwn g (top p t) (left p t) (block_at blocks t)

-- a grid and a rule are ones that the plan was made for
pub record Suit (p : Plan) (g : Plane) (rule : Rule) : Type 0 where
  pub rows : g.rows ≡ p.rows
  pub cols : g.cols ≡ p.cols
  pub reach : rule.weights.reach ≡ p.shape.reach
  pub around : rule.around ≡ p.shape.around

-- where row y, or column x, of tile t's block stands in the grid, counted from the halo's first
abbrev pub down : Plan → ℕ → ℕ → ℤ
down p t y = pos (top p t + y) -ℤ pos p.shape.reach

abbrev pub right : Plan → ℕ → ℕ → ℤ
right p t x = pos (left p t + x) -ℤ pos p.shape.reach

-- the place in row y and column x of a block of tile t has the reading of the grid
abbrev pub HasRead : Plan → Plane → Rule → ℕ → Part → ℕ → ℕ → Type 0
HasRead p g rule t b y x = at b y x ≡ read g rule (down p t y) (right p t x)

abbrev pub Reads : Plan → Plane → Rule → List Part → ℕ → ℕ → ℕ → Type 0
Reads p g rule blocks t y x = HasRead p g rule t (block_at blocks t) y x

-- the own cells of all blocks have it
abbrev pub OwnRead : Plan → Plane → Rule → List Part → Type 0
OwnRead p g rule blocks = (t row col : ℕ) → t < tiles p → row < tall p t → col < wide p t
    → Reads p g rule blocks t (p.shape.reach + row) (p.shape.reach + col)

-- the own rows have it, with the halo's columns
abbrev pub SidesRead : Plan → Plane → Rule → List Part → Type 0
SidesRead p g rule blocks = (t row x : ℕ) → t < tiles p → row < tall p t → x < wide p t + 2 * p.shape.reach
    → Reads p g rule blocks t (p.shape.reach + row) x

-- all places have it
abbrev pub AllRead : Plan → Plane → Rule → List Part → Type 0
AllRead p g rule blocks = (t y x : ℕ) → t < tiles p → y < tall p t + 2 * p.shape.reach
    → x < wide p t + 2 * p.shape.reach → Reads p g rule blocks t y x

-- each place that has it in the one list has it in the other
abbrev pub Keeps : Plan → Plane → Rule → List Part → List Part → Type 0
Keeps p g rule old new = (t y x : ℕ) → t < tiles p → x < wide p t + 2 * p.shape.reach
    → Reads p g rule old t y x → Reads p g rule new t y x

-- the place of the sender's block from which on an edge's cells are sent: its last own columns, its first ones, its
-- last own rows with the halo's columns, or its first ones
abbrev pub leave_row : Plan → TileEdge → ℕ
leave_row p x = if x.tag == DOWN then tall p x.from else p.shape.reach

abbrev pub leave_col : Plan → TileEdge → ℕ
leave_col p x = if x.tag == RIGHT then wide p x.from else (if x.tag == LEFT then p.shape.reach else 0)

-- the place of the receiver's block from which on they are put: in the halo before its own columns, behind them, above
-- its own rows or below them
abbrev pub land_row : Plan → TileEdge → ℕ
land_row p x =
    if x.tag == DOWN then 0 else
    (if x.tag == RIGHT then p.shape.reach else (if x.tag == LEFT then p.shape.reach else p.shape.reach + tall p x.to))

abbrev pub land_col : Plan → TileEdge → ℕ
land_col p x = if x.tag == LEFT then p.shape.reach + wide p x.to else 0

-- the cells that an edge sends have the reading of the grid
abbrev pub IsReady : Plan → Plane → Rule → List Part → TileEdge → Type 0
IsReady p g rule blocks x = (k j : ℕ) → k < x.rows → j < x.cols
    → Reads p g rule blocks x.from (leave_row p x + k) (leave_col p x + j)

-- the cells that it brings have it
abbrev pub IsBrought : Plan → Plane → Rule → List Part → TileEdge → Type 0
IsBrought p g rule blocks x = (k j : ℕ) → k < x.rows → j < x.cols
    → Reads p g rule blocks x.to (land_row p x + k) (land_col p x + j)

-- those of the edges from number `from` up to and without `end` do
abbrev pub AreReady : Plan → Plane → Rule → List Part → ℕ → ℕ → Type 0
AreReady p g rule blocks from end = (e : ℕ) (x : TileEdge) → from ≤ e → e < end → slice_get (edges p) e ≡ Some x
    → IsReady p g rule blocks x

abbrev pub AreBrought : Plan → Plane → Rule → List Part → ℕ → ℕ → Type 0
AreBrought p g rule blocks from end = (e : ℕ) (x : TileEdge) → from ≤ e → e < end → slice_get (edges p) e ≡ Some x
    → IsBrought p g rule blocks x

-- the message of an edge, and its pair, which rests after k rounds
pub record IsLinked (p : Plan) (x : TileEdge) (k : ℕ) (link : Link) : Type 0 where
  pub message : link.message ≡ message_of p x
  pub pair : RestsAt (shape_of p x) k link.pair

-- one for each edge, of which the first n rest after one round more than k and the others after k
pub record AreLinked (p : Plan) (k n : ℕ) (links : List Link) : Type 0 where
  pub count : length links ≡ length (edges p)
  pub passed : (e : ℕ) (x : TileEdge) (l : Link) → e < n → slice_get (edges p) e ≡ Some x
      → IsLinked p x (k + 1) (slice_index_or links e l)
  pub rest : (e : ℕ) (x : TileEdge) (l : Link) → n ≤ e → slice_get (edges p) e ≡ Some x
      → IsLinked p x k (slice_index_or links e l)

-- there is room for the values of any message, for its bytes, and for the values that come out
pub record HasRoom (s : Scratch) : Type 0 where
  pub carried : length s.carried.items ≡ MAX_VALUES
  pub limits : All IsValue s.carried.items
  pub bytes : length s.bytes.items ≡ (MAX_VALUES + MAX_MULTIPLE) * ELEMENT_BYTES
  pub arrived : length s.arrived.items ≡ MAX_VALUES

-- ---- what is put into a block

-- its own cells have the reading of the grid; and so have its own rows, with the halo's columns
abbrev pub OwnHeld : Plan → Plane → Rule → ℕ → Part → Type 0
OwnHeld p g rule t b = (row col : ℕ) → row < tall p t → col < wide p t
    → HasRead p g rule t b (p.shape.reach + row) (p.shape.reach + col)

abbrev pub SidesHeld : Plan → Plane → Rule → ℕ → Part → Type 0
SidesHeld p g rule t b = (row x : ℕ) → row < tall p t → x < wide p t + 2 * p.shape.reach
    → HasRead p g rule t b (p.shape.reach + row) x

-- each place that has it before has it afterwards
abbrev pub Holding : Plan → Plane → Rule → ℕ → Part → Part → Type 0
Holding p g rule t old new = (y x : ℕ) → x < wide p t + 2 * p.shape.reach → HasRead p g rule t old y x
    → HasRead p g rule t new y x

-- the first n columns from column `from` on were given what lies there, in the own rows
pub record ColumnsSet (p : Plan) (rule : Rule) (t from n : ℕ) (old new : Part) : Type 0 where
  pub size : IsSized p t new
  pub keeps : (g : Plane) → Suit p g rule → OwnHeld p g rule t old → Holding p g rule t old new
  pub set : (g : Plane) → Suit p g rule → OwnHeld p g rule t old → (row k : ℕ) → row < tall p t → k < n
      → HasRead p g rule t new (p.shape.reach + row) (from + k)

-- no tile has tile t as its right neighbour, and it has none itself; the same with lower neighbours
abbrev pub opens_left : Plan → ℕ → Bool
opens_left p t = (t % p.tile_cols == 0) && nat_lt (nexts p.shape.around p.tile_cols) p.tile_cols

abbrev pub opens_right : Plan → ℕ → Bool
opens_right p t = nat_le (nexts p.shape.around p.tile_cols) (t % p.tile_cols)

abbrev pub opens_up : Plan → ℕ → Bool
opens_up p t = (t / p.tile_cols == 0) && nat_lt (nexts p.shape.around p.tile_rows) p.tile_rows

abbrev pub opens_down : Plan → ℕ → Bool
opens_down p t = nat_le (nexts p.shape.around p.tile_rows) (t / p.tile_cols)

-- the columns from column `from` on, as many as the weights reach, were given what lies there, in the own rows, where
-- they are open
pub record OpenColumnsSet (p : Plan) (rule : Rule) (t : ℕ) (is_open : Bool) (from : ℕ) (old new : Part) : Type 0 where
  pub size : IsSized p t new
  pub keeps : (g : Plane) → Suit p g rule → OwnHeld p g rule t old → Holding p g rule t old new
  pub set : is_open ≡ true → (g : Plane) → Suit p g rule → OwnHeld p g rule t old → (row k : ℕ) → row < tall p t
      → k < p.shape.reach → HasRead p g rule t new (p.shape.reach + row) (from + k)

-- the halo's columns that no edge brings were given what lies there, in the own rows
pub record AreSidesSet (p : Plan) (rule : Rule) (t : ℕ) (old new : Part) : Type 0 where
  pub size : IsSized p t new
  pub keeps : (g : Plane) → Suit p g rule → OwnHeld p g rule t old → Holding p g rule t old new
  pub before : opens_left p t ≡ true → (g : Plane) → Suit p g rule → OwnHeld p g rule t old → (row k : ℕ)
      → row < tall p t → k < p.shape.reach → HasRead p g rule t new (p.shape.reach + row) (0 + k)
  pub behind : opens_right p t ≡ true → (g : Plane) → Suit p g rule → OwnHeld p g rule t old → (row k : ℕ)
      → row < tall p t → k < p.shape.reach → HasRead p g rule t new (p.shape.reach + row) (p.shape.reach + wide p t + k)

-- the first n rows from row `from` on were given what lies there
pub record RowsSet (p : Plan) (rule : Rule) (t from n : ℕ) (old new : Part) : Type 0 where
  pub size : IsSized p t new
  pub keeps : (g : Plane) → Suit p g rule → SidesHeld p g rule t old → Holding p g rule t old new
  pub set : (g : Plane) → Suit p g rule → SidesHeld p g rule t old → (k x : ℕ) → k < n
      → x < wide p t + 2 * p.shape.reach → HasRead p g rule t new (from + k) x

-- the rows from row `from` on, as many as the weights reach, were given what lies there, where they are open
pub record OpenRowsSet (p : Plan) (rule : Rule) (t : ℕ) (is_open : Bool) (from : ℕ) (old new : Part) : Type 0 where
  pub size : IsSized p t new
  pub keeps : (g : Plane) → Suit p g rule → SidesHeld p g rule t old → Holding p g rule t old new
  pub set : is_open ≡ true → (g : Plane) → Suit p g rule → SidesHeld p g rule t old → (k x : ℕ) → k < p.shape.reach
      → x < wide p t + 2 * p.shape.reach → HasRead p g rule t new (from + k) x

-- the halo's rows that no edge brings were given what lies there
pub record AreEndsSet (p : Plan) (rule : Rule) (t : ℕ) (old new : Part) : Type 0 where
  pub size : IsSized p t new
  pub keeps : (g : Plane) → Suit p g rule → SidesHeld p g rule t old → Holding p g rule t old new
  pub above : opens_up p t ≡ true → (g : Plane) → Suit p g rule → SidesHeld p g rule t old → (k x : ℕ)
      → k < p.shape.reach → x < wide p t + 2 * p.shape.reach → HasRead p g rule t new (0 + k) x
  pub below : opens_down p t ≡ true → (g : Plane) → Suit p g rule → SidesHeld p g rule t old → (k x : ℕ)
      → k < p.shape.reach → x < wide p t + 2 * p.shape.reach → HasRead p g rule t new (p.shape.reach + tall p t + k) x

-- where a column, or a row, of the grid stands there, the tile has it, and all columns, or rows, before it
abbrev pub OwnColumns : Plan → Rule → ℕ → ℕ → Type 0
OwnColumns p rule t from = (k col : ℕ) → k < p.shape.reach → place rule.around p.cols (right p t (from + k)) ≡ Some col
    → (col < wide p t) × (left p t ≡ 0)

abbrev pub OwnRows : Plan → Rule → ℕ → ℕ → Type 0
OwnRows p rule t from = (k row : ℕ) → k < p.shape.reach → place rule.around p.rows (down p t (from + k)) ≡ Some row
    → (row < tall p t) × (top p t ≡ 0)

-- the cells of a rectangle are these, row by row, and any other place is as it was
pub record IsPut (y x rows cols : ℕ) (values : List ℤ) (old new : Part) : Type 0 where
  pub cells : (k j : ℕ) → k < rows → j < cols → at new (y + k) (x + j) ≡ slice_index_or values (k * cols + j) (pos 0)
  pub rest : (r i : ℕ) → i < width old → (y ≤ r → r < y + rows → x ≤ i → i < x + cols → ⊥) → at new r i ≡ at old r i
  pub size : SameSize old new
  pub limits : IsPart new

-- the first n own rows have in column x the edge, or where there is a column of the grid that own column, and any other
-- place is as it was
pub record IsColumnSet (rule : Rule) (source : Option ℕ) (x n : ℕ) (old new : Part) : Type 0 where
  pub edge : source ≡ None → (row : ℕ) → row < n → at new (old.reach + row) x ≡ rule.edge
  pub own : (col : ℕ) → source ≡ Some col → (row : ℕ) → row < n
      → at new (old.reach + row) x ≡ at old (old.reach + row) (old.reach + col)
  pub rest : (r i : ℕ) → i < width old → (i ≡ x → old.reach ≤ r → r < old.reach + n → ⊥) → at new r i ≡ at old r i
  pub size : SameSize old new
  pub limits : IsPart new

-- row y has the edge, or where there is a row of the grid that own row, and any other place is as it was
pub record IsRowSet (rule : Rule) (source : Option ℕ) (y : ℕ) (old new : Part) : Type 0 where
  pub edge : source ≡ None → (x : ℕ) → x < width old → at new y x ≡ rule.edge
  pub own : (row : ℕ) → source ≡ Some row → (x : ℕ) → x < width old → at new y x ≡ at old (old.reach + row) x
  pub rest : (r i : ℕ) → i < width old → (r ≡ y → ⊥) → at new r i ≡ at old r i
  pub size : SameSize old new
  pub limits : IsPart new
