-- A step of all blocks: a block whose places have the grid's reading makes its step.
use Rattle.std.proofs.Common.{◌≡◌, ◌∙◌, sym, ℕ, ◌+◌, ◌<◌, pos, ◌-ℤ◌, List, arith}
use Rattle.std.proofs.lemmas.Int.{ints}
use Rattle.stencil_def.specs.Plane.{Plane}
use Rattle.stencil_def.specs.declared.rule.Rule.{Rule}
use Rattle.stencil_def.specs.Step.{fold_plane, read}
use Rattle.stencil_def.proofs.FoldFacts.{fold-cols, fold-rows}
use Rattle.cell_lanes.specs.Block.{Part, Holds, IsInside, at}
use Rattle.grid_tiles.specs.Plan.{IsPlan, Plan, tiles}
use Rattle.grid_tiles.specs.Tiles.{block_at}
use Rattle.grid_tiles.specs.Blocks.{AllRead, AreSized, HoldGrid, IsSized, Keeps, OwnRead, SidesRead, Suit, left, top}
use Rattle.grid_tiles.proofs.Planning.{tile-tall, tile-wide}
use Rattle.grid_tiles.proofs.SeamFacts.{read-inside}

-- where all places have the reading, the block has it
pub block-holds : (p : Plan) (g : Plane) (rule : Rule) (blocks : List Part) (t : ℕ) → t < tiles p → IsSized p t (block_at blocks t) → AllRead p g rule blocks
    → Holds g rule (top p t) (left p t) (block_at blocks t)
block-holds p g rule blocks t less s all y x low lt =
    let rows = s.rows in let cols = s.cols in let high = s.reach in
    all t y x less (omega arith) (omega arith)
    ∙ (λ i. read g rule (pos (top p t + y) -ℤ pos (sym high i)) (pos (left p t + x) -ℤ pos (sym high i)))

-- the block of a tile lies inside the grid
pub block-inside : (p : Plan) (g : Plane) (rule : Rule) (t : ℕ) (b : Part) → IsPlan p → Suit p g rule → t < tiles p → IsSized p t b → IsInside g (top p t) (left p t) b
block-inside p g rule t b v suit less s =
    let rows = suit.rows in let cols = suit.cols in let many = s.rows in let wide' = s.cols in
    let one = tile-tall p t v less in let two = tile-wide p t v less in
    record { rows_fit = omega arith; cols_fit = omega arith }

-- own cells of the grid have its reading
pub own-read : (p : Plan) (g : Plane) (rule : Rule) (blocks : List Part) → IsPlan p → AreSized p blocks → Suit p g rule → HoldGrid p g blocks → OwnRead p g rule blocks
own-read p g rule blocks v s suit holds t row col less low lt =
    let size = s.each t less in let high = size.reach in let w = size.cols in let n = size.rows in
    let b = block_at blocks t in let h = p.shape.reach in
    let rows = suit.rows in let cols = suit.cols in
    let one = tile-tall p t v less in let two = tile-wide p t v less in
    (λ i. at b (sym high i + row) (sym high i + col))
    ∙ holds t less row col (omega arith) (omega arith)
    ∙ sym (read-inside g rule (top p t + row) (left p t + col) (omega arith) (omega arith))
    ∙ (λ i. read g rule (sym (ahead (top p t) h row) i) (sym (ahead (left p t) h col) i))
  where
    ahead : (a h r : ℕ) → (pos (a + (h + r)) -ℤ pos h) ≡ pos (a + r)
    ahead a h r = omega (arith, ints)

-- what is kept stays the reading of own rows with the halo's columns
pub sides-stay : (p : Plan) (g : Plane) (rule : Rule) (old new : List Part) → SidesRead p g rule old → Keeps p g rule old new → SidesRead p g rule new
sides-stay p g rule old new sides keep t row x less low lt = keep t (p.shape.reach + row) x less lt (sides t row x less low lt)

-- and so does that of own cells
pub own-stay : (p : Plan) (g : Plane) (rule : Rule) (old new : List Part) → OwnRead p g rule old → Keeps p g rule old new → OwnRead p g rule new
own-stay p g rule old new own keep t row col less low lt = keep t (p.shape.reach + row) (p.shape.reach + col) less (omega arith) (own t row col less low lt)

-- the grid after a step has the same size
pub suit-next : (p : Plan) (g : Plane) (rule : Rule) (n : ℕ) → Suit p g rule → Suit p (fold_plane g rule n) rule
suit-next p g rule n s = record { rows = fold-rows g rule n ∙ s.rows; cols = fold-cols g rule n ∙ s.cols; reach = s.reach; around = s.around }
