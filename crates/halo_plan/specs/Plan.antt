-- A plan: how the rows of a grid go to ranks, and which message passes between ranks.
use Rattle.std.specs.Prelude.{◌⊎◌, ℕ, ◌+◌, ◌*◌, ◌/◌, ◌≤◌, IsTrue}
use Rattle.part_geometry.specs.declared.TheConstants.{MAX_DEPTH, MAX_GRAIN, MAX_PARTS, MAX_RANKS}
use Rattle.part_geometry.specs.Shape.{IsWithin, Shape}
use Rattle.stencil_def.specs.declared.limits.TheConstants.{MAX_CELLS}
use Rattle.stencil_def.specs.declared.rule.Around.{Around}
use Rattle.stencil_def.specs.Limits.{IsSide}
use Rattle.halo_message.specs.Message as message
use Rattle.halo_message.specs.Message.{Message, shares_few}

-- the rows and columns of the grid, how many ranks there are, the partitions of both sides of a message, the least
-- bytes of a piece, how many rounds may be in flight, how far the weights reach, and what lies outside the grid
pub record Plan : Type 0 where
  pub rows : ℕ
  pub cols : ℕ
  pub ranks : ℕ
  pub send_parts : ℕ
  pub recv_parts : ℕ
  pub grain : ℕ
  pub depth : ℕ
  pub reach : ℕ
  pub around : Around

-- the first row of rank i
abbrev pub first_row : Plan → ℕ → ℕ
first_row p i = i * p.rows / p.ranks

-- rank i has the rows from its first one up to and without the first one of the next rank
abbrev pub block_of : Plan → ℕ → ℕ × ℕ
block_of p i = (first_row p i, first_row p (i + 1))

-- how many values the rows of a message have: as many rows as the weights reach
abbrev pub values : Plan → ℕ
values p = p.reach * p.cols

-- the message of an edge
abbrev pub message_of : Plan → Message
message_of p = record {
  values = values p;
  send_parts = p.send_parts;
  recv_parts = p.recv_parts;
  grain = p.grain;
  depth = p.depth;
}

-- how many elements it has
abbrev pub elements : Plan → ℕ
elements p = message.elements (message_of p)

-- how both sides cut it
abbrev pub shape_of : Plan → Shape
shape_of p = message.shape_of (message_of p)

-- the limits of a plan: with two ranks or more, each has as many rows as the weights reach
pub record IsPlan (p : Plan) : Type 0 where
  pub rows : IsSide p.rows
  pub cols : IsSide p.cols
  pub cells : p.rows * p.cols ≤ MAX_CELLS
  pub ranks : IsWithin 1 MAX_RANKS p.ranks
  pub fit : (p.ranks ≤ 1) ⊎ (p.ranks * p.reach ≤ p.rows)
  pub send_parts : IsWithin 1 MAX_PARTS p.send_parts
  pub recv_parts : IsWithin 1 MAX_PARTS p.recv_parts
  pub multiple : IsTrue (shares_few p.send_parts p.recv_parts)
  pub grain : IsWithin 1 MAX_GRAIN p.grain
  pub depth : IsWithin 1 MAX_DEPTH p.depth
  pub reach : IsWithin 1 2 p.reach
