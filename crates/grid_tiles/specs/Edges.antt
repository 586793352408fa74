-- The edges of a plan: which rectangle of the grid goes from which tile to which.
use Rattle.std.specs.Prelude.{◌≡◌, ℕ, ◌+◌, ◌-◌, ◌*◌, ◌<◌, ◌==◌, nat_le, if◌then◌else◌, pos, ◌-ℤ◌}
use Rattle.std.specs.Prelude.{Some, List, [], ◌∷◌, ◌++◌, slice_get}
use Rattle.std.specs.List.{flat_map, range_with_len}
use Rattle.part_geometry.specs.Shape.{IsWithin, Shape}
use Rattle.stencil_def.specs.declared.rule.Around.{Around}
use Rattle.stencil_def.specs.declared.rule.Around.TheVariants.{Fixed, Wrap}
use Rattle.halo_message.specs.declared.TheConstants.{MAX_VALUES}
use Rattle.halo_message.specs.Message as message
use Rattle.halo_message.specs.Message.{Message}
use Rattle.grid_tiles.specs.declared.TheConstants.{DOWN, LEFT, RIGHT, UP}
use Rattle.grid_tiles.specs.declared.tile.TileEdge.{TileEdge}
use Rattle.grid_tiles.specs.Plan.{Plan, cols_of, first_col, first_row, number, rows_of, tiles}

-- how many of n places in a row have a next one: all but the last, and with `Wrap` the last too where there are two at
-- least
abbrev pub nexts : Around → ℕ → ℕ
nexts Fixed n = n - 1
nexts Wrap n = if nat_le 2 n then n else 0

-- the next one: behind the last comes the first
abbrev pub next : ℕ → ℕ → ℕ
next n i = if i + 1 == n then 0 else i + 1

-- the last columns of the tile in row a and column b go right to the one in column c with tag 1, and the first columns
-- of that one come back with tag 2
abbrev pub rightward : Plan → ℕ → ℕ → ℕ → TileEdge
rightward p a b c = record {
  from = number p a b;
  to = number p a c;
  tag = RIGHT;
  first_row = pos (first_row p a);
  rows = rows_of p a;
  first_col = pos (first_col p (b + 1)) -ℤ pos p.shape.reach;
  cols = p.shape.reach;
}

abbrev pub leftward : Plan → ℕ → ℕ → ℕ → TileEdge
leftward p a b c = record {
  from = number p a c;
  to = number p a b;
  tag = LEFT;
  first_row = pos (first_row p a);
  rows = rows_of p a;
  first_col = pos (first_col p c);
  cols = p.shape.reach;
}

-- the last rows of the tile in row a and column b go down to the one in row d with tag 3, and the first rows of that
-- one come back with tag 4, each with as many more columns at both sides as the weights reach
abbrev pub downward : Plan → ℕ → ℕ → ℕ → TileEdge
downward p a b d = record {
  from = number p a b;
  to = number p d b;
  tag = DOWN;
  first_row = pos (first_row p (a + 1)) -ℤ pos p.shape.reach;
  rows = p.shape.reach;
  first_col = pos (first_col p b) -ℤ pos p.shape.reach;
  cols = cols_of p b + 2 * p.shape.reach;
}

abbrev pub upward : Plan → ℕ → ℕ → ℕ → TileEdge
upward p a b d = record {
  from = number p d b;
  to = number p a b;
  tag = UP;
  first_row = pos (first_row p d);
  rows = p.shape.reach;
  first_col = pos (first_col p b) -ℤ pos p.shape.reach;
  cols = cols_of p b + 2 * p.shape.reach;
}

-- the edges between a tile and its right neighbour, and between a tile and its lower one
abbrev pub across : Plan → ℕ → ℕ → List TileEdge
across p a b = rightward p a b (next p.tile_cols b) ∷ leftward p a b (next p.tile_cols b) ∷ []

abbrev pub along : Plan → ℕ → ℕ → List TileEdge
along p a b = downward p a b (next p.tile_rows a) ∷ upward p a b (next p.tile_rows a) ∷ []

-- the first phase: the edges of each tile, row by row, that has a right neighbour
abbrev pub first_phase : Plan → List TileEdge
first_phase p =
    flat_map (λ a. flat_map (across p a) (range_with_len 0 (nexts p.shape.around p.tile_cols)))
    (range_with_len 0 p.tile_rows)

-- the second phase: those of each tile, row by row, that has a lower neighbour
abbrev pub second_phase : Plan → List TileEdge
second_phase p =
    flat_map (λ a. flat_map (along p a) (range_with_len 0 p.tile_cols))
    (range_with_len 0 (nexts p.shape.around p.tile_rows))

-- the edges in order
unfoldable pub edges : Plan → List TileEdge
edges p = first_phase p ++ second_phase p

-- an edge of the plan
abbrev pub IsEdgeOf : Plan → TileEdge → Type 0
IsEdgeOf p x = (e : ℕ) × (slice_get (edges p) e ≡ Some x)

-- the message of an edge: the cells of its rectangle, row by row
abbrev pub message_of : Plan → TileEdge → Message
message_of p x = record {
  values = x.rows * x.cols;
  send_parts = p.shape.send_parts;
  recv_parts = p.shape.recv_parts;
  grain = p.shape.grain;
  depth = p.shape.depth;
}

-- how both sides cut it
abbrev pub shape_of : Plan → TileEdge → Shape
shape_of p x = message.shape_of (message_of p x)

-- the limits of an edge
pub record IsEdge (p : Plan) (x : TileEdge) : Type 0 where
  pub from : x.from < tiles p
  pub to : x.to < tiles p
  pub tag : IsWithin 1 4 x.tag
  pub values : IsWithin 1 MAX_VALUES (x.rows * x.cols)
