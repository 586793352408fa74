-- The blocks and the pairs of all ranks while a step is made: for private functions.
use Rattle.std.specs.Prelude.{◌≡◌, ℕ, ◌+◌, ◌-◌, ◌*◌, ◌<◌, ◌≤◌, ◌==◌, if◌then◌else◌, false, ℤ, List, []}
use Rattle.std.specs.Prelude.{length, slice_get, slice_index_or, Some}
use Rattle.std.specs.List.{All}
use Rattle.part_geometry.specs.Shape.{Shape}
use Rattle.plain_pair.specs.Kept.{Kept}
use Rattle.stencil_def.specs.Limits.{IsValue}
use Rattle.stencil_def.specs.Plane.{Plane}
use Rattle.stencil_def.specs.declared.rule.Rule.{Rule}
use Rattle.cell_lanes.specs.Block.{Part, HoldsMiddle, HoldsOwn, IsPart, at, part_of}
use Rattle.halo_message.specs.declared.TheConstants.{ELEMENT_BYTES}
use Rattle.halo_plan.specs.declared.TheConstants.{DOWN}
use Rattle.halo_plan.specs.declared.edge.Edge.{Edge}
use Rattle.halo_plan.specs.Plan.{Plan, elements, first_row, shape_of, values}
use Rattle.halo_plan.specs.Edges.{edges}
use Rattle.rank_task.specs.declared.serial_edges.Scratch.{Scratch}

-- block i of a list, and pair e; nothing is said of what stands behind the last
abbrev pub no_part : Part
no_part = part_of 0 0 0 []

abbrev pub block_at : List Part → ℕ → Part
block_at blocks i = slice_index_or blocks i no_part

abbrev pub no_pair : Kept
no_pair = record {
  shape = record { send_parts = 0; send_bytes = 0; recv_parts = 0; recv_bytes = 0; grain = 0; depth = 0 };
  sent = 0;
  received = 0;
  released = 0;
  sending = false;
  receiving = false;
  marked = [];
  taken = [];
  back = [];
  buffers = [];
}

abbrev pub pair_at : List Kept → ℕ → Kept
pair_at pairs e = slice_index_or pairs e no_pair

-- an own cell of a block
abbrev pub own_at : Part → ℕ → ℕ → ℤ
own_at b row col = at b (b.reach + row) (b.reach + col)

-- how many rows rank i has
abbrev pub rows_of : Plan → ℕ → ℕ
rows_of p i = first_row p (i + 1) - first_row p i

-- a block has the size of rank i's
pub record IsSized (p : Plan) (i : ℕ) (b : Part) : Type 0 where
  pub rows : b.rows ≡ rows_of p i
  pub cols : b.cols ≡ p.cols
  pub reach : b.reach ≡ p.reach
  pub limits : IsPart b

-- a block for each rank
pub record AreSized (p : Plan) (blocks : List Part) : Type 0 where
  pub count : length blocks ≡ p.ranks
  pub each : (i : ℕ) → i < p.ranks → IsSized p i (block_at blocks i)

-- the blocks have the rows of a grid
abbrev pub HoldGrid : Plan → Plane → List Part → Type 0
HoldGrid p g blocks = (i : ℕ) → i < p.ranks → HoldsOwn g (first_row p i) 0 (block_at blocks i)

-- a pair of this geometry has had k rounds, of which none is open
pub record IsResting (g : Shape) (k : ℕ) (pair : Kept) : Type 0 where
  pub shape : pair.shape ≡ g
  pub sent : pair.sent ≡ k
  pub received : pair.received ≡ k
  pub released : pair.released ≡ k
  pub sending : pair.sending ≡ false
  pub receiving : pair.receiving ≡ false

-- a pair for each edge, of which the first n rest after one round more than k and the others after k
pub record ArePaired (p : Plan) (k n : ℕ) (pairs : List Kept) : Type 0 where
  pub count : length pairs ≡ length (edges p)
  pub passed : (e : ℕ) → e < n → e < length (edges p) → IsResting (shape_of p) (k + 1) (pair_at pairs e)
  pub rest : (e : ℕ) → n ≤ e → e < length (edges p) → IsResting (shape_of p) k (pair_at pairs e)

-- a grid and a rule are ones that the plan was made for
pub record Suit (p : Plan) (g : Plane) (rule : Rule) : Type 0 where
  pub rows : g.rows ≡ p.rows
  pub cols : g.cols ≡ p.cols
  pub reach : rule.weights.reach ≡ p.reach
  pub around : rule.around ≡ p.around

-- the own columns of row y of block i have the reading of the grid
abbrev pub Reads : Plan → Plane → Rule → List Part → ℕ → ℕ → Type 0
Reads p g rule blocks i y = HoldsMiddle g rule (first_row p i) y (block_at blocks i)

-- the own rows of all blocks have it
abbrev pub OwnRead : Plan → Plane → Rule → List Part → Type 0
OwnRead p g rule blocks = (i row : ℕ) → i < p.ranks → row < rows_of p i → Reads p g rule blocks i (p.reach + row)

-- each row that has it in the one list has it in the other
abbrev pub Keeps : Plan → Plane → Rule → List Part → List Part → Type 0
Keeps p g rule old new = (i y : ℕ) → Reads p g rule old i y → Reads p g rule new i y

-- the row of the receiver's block, counted from the halo's first, from which on an edge's rows are put
abbrev pub landing : Plan → Edge → ℕ
landing p x = if x.tag == DOWN then 0 else p.reach + rows_of p x.to

-- the sender's own row from which on an edge's rows are sent
abbrev pub leaving : Plan → Edge → ℕ
leaving p x = if x.tag == DOWN then rows_of p x.from - p.reach else 0

-- the rows of an edge are in the halo of its receiver
abbrev pub IsBrought : Plan → Plane → Rule → List Part → Edge → Type 0
IsBrought p g rule blocks x = (k : ℕ) → k < p.reach → Reads p g rule blocks x.to (landing p x + k)

-- those of the first n edges are
abbrev pub AreBrought : Plan → Plane → Rule → List Part → ℕ → Type 0
AreBrought p g rule blocks n = (e : ℕ) (x : Edge) → e < n → slice_get (edges p) e ≡ Some x → IsBrought p g rule blocks x

-- the row k of the halo before the first rank's rows has it, and the row k behind the last rank's
pub record IsOpenRead (p : Plan) (g : Plane) (rule : Rule) (blocks : List Part) (k : ℕ) : Type 0 where
  pub before : Reads p g rule blocks 0 k
  pub behind : Reads p g rule blocks (p.ranks - 1) (p.reach + rows_of p (p.ranks - 1) + k)

-- all rows have it, in the halo too
abbrev pub AllRead : Plan → Plane → Rule → List Part → Type 0
AllRead p g rule blocks = (i y : ℕ) → i < p.ranks → y < rows_of p i + 2 * p.reach → Reads p g rule blocks i y

-- there is room for the values of a message's rows, for its bytes, and for the values that come out
pub record HasRoom (p : Plan) (s : Scratch) : Type 0 where
  pub carried : length s.carried.items ≡ values p
  pub limits : All IsValue s.carried.items
  pub message : length s.message.items ≡ elements p * ELEMENT_BYTES
  pub arrived : length s.arrived.items ≡ values p
