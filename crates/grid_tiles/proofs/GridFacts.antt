-- The grid that the blocks have: where each block has the cells of its tile, the own rows of the tiles in a row of tiles,
-- side by side and then one under the other, are the grid's.
use Rattle.std.proofs.Common.{◌≡◌, ◌∙◌, refl, sym, ap, subst, ℕ, zero, suc, ◌+◌, ◌-◌, ◌*◌, ◌<◌, ◌≤◌, ℤ, pos, List, [], ◌∷◌, ◌++◌, length, take, drop, length-take-le, get_or, arith}
use Rattle.std.specs.List.{All, flat_map, range_with_len}
use Rattle.std.proofs.lemmas.List.{drop-drop, drop-take, ext_get_or, flat_map_more, get_or-drop, get_or-take, get_or_append_left, get_or_push, length-drop, take-append-drop, take-take, take_all}
use Rattle.std.proofs.lemmas.List.Concat.{flat_map-cons}
use Rattle.std.proofs.lemmas.List.Elements.{All-append, All-drop, All-nil, All-take}
use Rattle.std.proofs.lemmas.Nat.{mul-le}
use Rattle.std.proofs.Math.Seq.{take-append_seam}
use Rattle.stencil_def.specs.Limits.{IsValue}
use Rattle.stencil_def.specs.Plane.{IsPlane, Plane, cell, plane_of, row_of}
use Rattle.stencil_def.specs.Step.{fold_plane}
use Rattle.stencil_def.specs.declared.rule.Rule.{Rule}
use Rattle.stencil_def.proofs.FoldFacts.{fold-length}
use Rattle.cell_lanes.specs.Block.{HoldsOwn, HoldsOwnBelow, IsPart, Part, at, own_cells, width, with_cells}
use Rattle.cell_lanes.proofs.BlockFacts.{own-room}
use Rattle.cell_lanes.proofs.PlaceFacts.{own-at, row-room, with-inside, with-other}
use Rattle.cell_lanes.proofs.WindowFacts.{below-or}
use Rattle.grid_tiles.specs.Plan.{IsPlan, Plan, first_col, first_row, number, rows_of, tiles}
use Rattle.grid_tiles.specs.Tiles.{block_at, gathered, whole_row, whole_rows}
use Rattle.grid_tiles.specs.Blocks.{AreSized, HoldGrid, Suit, left, tall, top, wide}
use Rattle.grid_tiles.proofs.BringFacts.{left-of, tall-of, top-of, wide-of}
use Rattle.grid_tiles.proofs.Planning.{cols-some, number-inside, rows-some, tile-tall, tile-wide}
use Rattle.grid_tiles.proofs.SeamFacts.{cut-last, cut-zero}
use Rattle.grid_tiles.proofs.StepFacts.{suit-next}

-- ---- parts of a list, one after another

-- what stands from place a up to and without place b
abbrev pub between : List ℤ → ℕ → ℕ → List ℤ
between xs a b = take (b - a) (drop a xs)

-- two such parts, of which the second begins where the first ends, are one
join : (xs : List ℤ) (a b c : ℕ) → a ≤ b → b ≤ c → between xs a b ++ between xs b c ≡ between xs a c
join xs a b c low high =
    let sum : b - a + (c - b) ≡ c - a = omega arith in
    let there : a + (b - a) ≡ b = omega arith in
    (λ i. sym (take-take (b - a) (c - a) (drop a xs) (omega arith)) i
    ++ (ap (λ m. take (c - b) (drop m xs)) (sym there) ∙ ap (take (c - b)) (sym (drop-drop (b - a) a xs)) ∙ sym (drop-take (b - a) (c - b) (drop a xs)) ∙ ap (λ m. drop (b - a) (take m (drop a xs))) sum) i)
    ∙ take-append-drop (b - a) (between xs a c)

-- there is nothing between a place and itself
empty-between : (xs : List ℤ) (a b : ℕ) → a ≡ b → [] ≡ between xs a b
empty-between xs a b same = let none : 0 ≡ b - a = omega arith in ap (λ n. take n (drop a xs)) none

-- pieces that lie one after another are the whole
join-range : (xs : List ℤ) (f : ℕ → List ℤ) (t : ℕ → ℕ) (a n : ℕ) → ((r : ℕ) → t r ≤ t (r + 1)) → ((r : ℕ) → a ≤ r → r < a + n → f r ≡ between xs (t r) (t (r + 1)))
    → (flat_map f (range_with_len a n) ≡ between xs (t a) (t (a + n))) × (t a ≤ t (a + n))
join-range xs f t a zero up each = let same : a ≡ a + 0 = omega arith in let e = ap t same in (empty-between xs (t a) (t (a + 0)) e, omega arith)
join-range xs f t a (suc n) up each =
    let rest = join-range xs f t (a + 1) n up (λ r low high. each r (omega arith) (omega arith)) in
    let end : a + 1 + n ≡ a + suc n = omega arith in
    let first = up a in
    let far = rest.1 in
    let same = ap t end in (
      flat_map-cons f a (range_with_len (a + 1) n)
          ∙ (λ i. each a (omega arith) (omega arith) i ++ rest.0 i)
          ∙ join xs (t a) (t (a + 1)) (t (a + 1 + n)) first far
          ∙ ap (λ m. between xs (t a) (t m)) end,
      omega arith,
    )

-- ---- the rows of a block

-- an own row has as many values as the block has columns
length-own : (b : Part) (row : ℕ) → IsPart b → row < b.rows → length (own_cells b row) ≡ b.cols
length-own b row s less =
    let room = own-room b.rows b.cols b.reach row b.values s less in
    let start = (b.reach + row) * width b + b.reach in
    let rest = length-drop start b.values in
    length-take-le b.cols (drop start b.values) (omega arith)

-- where the block has the grid's cells, its own row is a part of the grid's row
own-piece : (g : Plane) (top left row : ℕ) (b : Part) → IsPart b → HoldsOwn g top left b → row < b.rows → length g.values ≡ g.rows * g.cols → top + row < g.rows → left + b.cols ≤ g.cols
    → own_cells b row ≡ between g.values ((top + row) * g.cols + left) ((top + row) * g.cols + (left + b.cols))
own-piece g top left row b s holds less long inside fits =
    let r = (top + row) * g.cols in
    let m = mul-le (top + row + 1) g.cols g.rows g.cols (omega arith) (omega arith) in
    let n : r + (left + b.cols) - (r + left) ≡ b.cols = omega arith in
    let rest = length-drop (r + left) g.values in
    let long' : length (between g.values (r + left) (r + (left + b.cols))) ≡ b.cols =
    length-take-le (r + (left + b.cols) - (r + left)) (drop (r + left) g.values) (omega (arith, m)) ∙ n in
    ext_get_or (pos 0) (own_cells b row) (between g.values (r + left) (r + (left + b.cols))) (length-own b row s less ∙ sym long')
    (λ col lt. let low : col < b.cols = let own = length-own b row s less in omega arith in
    let place : (top + row) * g.cols + (left + col) ≡ r + left + col = omega arith in
    own-at b row col low ∙ holds row col less low
    ∙ ap (λ k. get_or g.values k (pos 0)) place
    ∙ sym (get_or-drop (r + left) g.values col (pos 0))
    ∙ sym (get_or-take (r + (left + b.cols) - (r + left)) (drop (r + left) g.values) col (pos 0) (omega arith)))

-- ---- all blocks

-- a row of the grid, from the tiles side by side
row-whole : (p : Plan) (g : Plane) (blocks : List Part) (a row : ℕ) → IsPlan p → AreSized p blocks → HoldGrid p g blocks → g.rows ≡ p.rows → g.cols ≡ p.cols → length g.values ≡ g.rows * g.cols
    → a < p.tile_rows → row < rows_of p a → whole_row p blocks a row ≡ between g.values ((first_row p a + row) * g.cols) ((first_row p a + (row + 1)) * g.cols)
row-whole p g blocks a row v s holds rows cols long less low =
    let r = (first_row p a + row) * g.cols in
    let t : ℕ → ℕ = λ b. r + first_col p b in
    let some = v.tile_cols in
    let all = (join-range g.values (λ b. own_cells (block_at blocks (number p a b)) row) t 0 p.tile_cols
    (λ b. let h = cols-some p b v in omega arith)
    (λ b from to.
    let n = number p a b in
    let less' = number-inside p a b less (omega arith) in
    let size = s.each n less' in let many = size.rows in let wide' = size.cols in
    let o = top-of p a b (omega arith) in let h = tall-of p a b (omega arith) in
    let l = left-of p a b (omega arith) in let w = wide-of p a b (omega arith) in
    let fits = tile-wide p n v less' in let fits' = tile-tall p n v less' in
    let step = cols-some p b v in
    let one : (top p n + row) * g.cols + left p n ≡ t b = (λ i. (o i + row) * g.cols + l i) in
    let sum : left p n + (block_at blocks n).cols ≡ first_col p (b + 1) = omega arith in
    let two : (top p n + row) * g.cols + (left p n + (block_at blocks n).cols) ≡ t (b + 1) = (λ i. (o i + row) * g.cols + sum i) in
    own-piece g (top p n) (left p n) row (block_at blocks n) size.limits (holds n less') (omega arith) long (omega arith) (omega arith)
    ∙ (λ i. between g.values (one i) (two i)))).0 in
    let zero' = cut-zero p.cols p.tile_cols (omega arith) in
    let end' : first_col p (0 + p.tile_cols) ≡ g.cols =
    let z : 0 + p.tile_cols ≡ p.tile_cols = omega arith in ap (first_col p) z ∙ cut-last p.cols p.tile_cols (omega arith) ∙ sym cols in
    let from : t 0 ≡ r = ap (λ k. r + k) zero' ∙ omega arith in
    let to : t (0 + p.tile_cols) ≡ (first_row p a + (row + 1)) * g.cols = ap (λ k. r + k) end' ∙ omega arith in
    all ∙ (λ i. between g.values (from i) (to i))

-- the rows of a row of tiles, one under the other
rows-whole : (p : Plan) (g : Plane) (blocks : List Part) (a : ℕ) → IsPlan p → AreSized p blocks → HoldGrid p g blocks → g.rows ≡ p.rows → g.cols ≡ p.cols → length g.values ≡ g.rows * g.cols
    → a < p.tile_rows → whole_rows p blocks a ≡ between g.values (first_row p a * g.cols) (first_row p (a + 1) * g.cols)
rows-whole p g blocks a v s holds rows cols long less =
    let t : ℕ → ℕ = λ r. (first_row p a + r) * g.cols in
    let some = rows-some p a v in
    let all = (join-range g.values (whole_row p blocks a) t 0 (rows_of p a)
    (λ r. mul-le (first_row p a + r) g.cols (first_row p a + (r + 1)) g.cols (omega arith) (omega arith))
    (λ r from to. row-whole p g blocks a r v s holds rows cols long less (omega arith))).0 in
    let from : first_row p a + 0 ≡ first_row p a = omega arith in
    let to : first_row p a + (0 + rows_of p a) ≡ first_row p (a + 1) = omega arith in
    all ∙ (λ i. between g.values (from i * g.cols) (to i * g.cols))

-- all of them
all-whole : (p : Plan) (g : Plane) (blocks : List Part) → IsPlan p → AreSized p blocks → HoldGrid p g blocks → g.rows ≡ p.rows → g.cols ≡ p.cols → length g.values ≡ g.rows * g.cols
    → flat_map (whole_rows p blocks) (range_with_len 0 p.tile_rows) ≡ g.values
all-whole p g blocks v s holds rows cols long =
    let t : ℕ → ℕ = λ a. first_row p a * g.cols in
    let some = v.tile_rows in
    let all = (join-range g.values (whole_rows p blocks) t 0 p.tile_rows
    (λ a. let h = rows-some p a v in mul-le (first_row p a) g.cols (first_row p (a + 1)) g.cols (omega arith) (omega arith))
    (λ a from to. rows-whole p g blocks a v s holds rows cols long (omega arith))).0 in
    let z : 0 + p.tile_rows ≡ p.tile_rows = omega arith in
    let from : first_row p 0 ≡ 0 = cut-zero p.rows p.tile_rows (omega arith) in
    let to : first_row p (0 + p.tile_rows) ≡ g.rows = ap (first_row p) z ∙ cut-last p.rows p.tile_rows (omega arith) ∙ sym rows in
    let none : 0 * g.cols ≡ 0 = omega arith in
    all ∙ (λ i. between g.values (from i * g.cols) (to i * g.cols)) ∙ (λ i. between g.values (none i) (g.rows * g.cols))
    ∙ take_all (g.rows * g.cols - 0) g.values (omega arith)

-- where the blocks have a grid's cells, what is gathered is that grid
pub gathered-is : (p : Plan) (g : Plane) (blocks : List Part) → IsPlan p → AreSized p blocks → HoldGrid p g blocks → g.rows ≡ p.rows → g.cols ≡ p.cols → length g.values ≡ g.rows * g.cols → gathered p blocks ≡ g
unfolding gathered
gathered-is p g blocks v s holds rows cols long =
    let values = all-whole p g blocks v s holds rows cols long in
    (λ i. record { rows = sym rows i; cols = sym cols i; values = values i })

-- ---- the limits of the grid

-- what each piece has, all have
all-range : (f : ℕ → List ℤ) (a n : ℕ) → ((k : ℕ) → a ≤ k → k < a + n → All IsValue (f k)) → All IsValue (flat_map f (range_with_len a n))
all-range f a zero each = All-nil IsValue
all-range f a (suc n) each =
    subst (All IsValue) (sym (flat_map-cons f a (range_with_len (a + 1) n)))
    (All-append IsValue (f a) (flat_map f (range_with_len (a + 1) n)) (each a (omega arith) (omega arith)) (all-range f (a + 1) n (λ k low high. each k (omega arith) (omega arith))))

-- the own cells of a block are in range
all-own : (b : Part) (row : ℕ) → IsPart b → All IsValue (own_cells b row)
all-own b row s = let start = (b.reach + row) * width b + b.reach in All-take IsValue b.cols (drop start b.values) (All-drop IsValue start b.values s.values)

-- and so are those of all blocks
all-gathered : (p : Plan) (blocks : List Part) → AreSized p blocks → All IsValue (flat_map (whole_rows p blocks) (range_with_len 0 p.tile_rows))
all-gathered p blocks s =
    all-range (whole_rows p blocks) 0 p.tile_rows (λ a _ la. all-range (whole_row p blocks a) 0 (rows_of p a) (λ r _ lr.
    all-range (λ b. own_cells (block_at blocks (number p a b)) r) 0 p.tile_cols (λ b _ lb.
    all-own (block_at blocks (number p a b)) r (s.each (number p a b) (number-inside p a b (omega arith) (omega arith))).limits)))

-- what is gathered keeps the limits of a grid
pub gathered-plane : (p : Plan) (g : Plane) (blocks : List Part) → IsPlan p → AreSized p blocks → gathered p blocks ≡ g → length g.values ≡ p.rows * p.cols → IsPlane (gathered p blocks)
unfolding gathered
gathered-plane p g blocks v s same long = record {
  rows = v.rows;
  cols = v.cols;
  cells = v.cells;
  length = ap (λ (h : Plane). length h.values) same ∙ long;
  values = all-gathered p blocks s;
}

-- as the code makes a grid of the rows
pub gathered-from : (p : Plan) (blocks : List Part) (rows cols : ℕ) (values : List ℤ) → rows ≡ p.rows → cols ≡ p.cols → values ≡ flat_map (whole_rows p blocks) (range_with_len 0 p.tile_rows)
    → plane_of rows cols values ≡ gathered p blocks
unfolding gathered
gathered-from p blocks rows cols values many wide' is = λ i. plane_of (many i) (wide' i) (is i)

-- its values
pub gathered-values : (p : Plan) (blocks : List Part) → (gathered p blocks).values ≡ flat_map (whole_rows p blocks) (range_with_len 0 p.tile_rows)
unfolding gathered
gathered-values p blocks = refl

-- after some steps
pub stepped : (p : Plan) (g : Plane) (rule : Rule) (n : ℕ) (blocks : List Part) → IsPlan p → AreSized p blocks → IsPlane g → Suit p g rule → HoldGrid p (fold_plane g rule n) blocks
    → gathered p blocks ≡ fold_plane g rule n
stepped p g rule n blocks v s plane suit holds =
    let later = suit-next p g rule n suit in
    gathered-is p (fold_plane g rule n) blocks v s holds later.rows later.cols
    (fold-length g rule n plane ∙ (λ i. (suit.rows ∙ sym later.rows) i * (suit.cols ∙ sym later.cols) i))

-- which keeps the limits of a grid
pub stepped-plane : (p : Plan) (g : Plane) (rule : Rule) (n : ℕ) (blocks : List Part) → IsPlan p → AreSized p blocks → IsPlane g → Suit p g rule → HoldGrid p (fold_plane g rule n) blocks
    → IsPlane (gathered p blocks)
stepped-plane p g rule n blocks v s plane suit holds =
    gathered-plane p (fold_plane g rule n) blocks v s (stepped p g rule n blocks v s plane suit holds) (fold-length g rule n plane ∙ (λ i. suit.rows i * suit.cols i))

-- ---- a block, as its rows are put

-- cells of a row of the grid
pub row-cells : (g : Plane) (r start end col : ℕ) → start + col < end → end ≤ g.cols → get_or (take (end - start) (drop start (row_of g r))) col (pos 0) ≡ cell g r (start + col)
row-cells g r start end col less fits =
    get_or-take (end - start) (drop start (row_of g r)) col (pos 0) (omega arith) ∙ get_or-drop start (row_of g r) col (pos 0)
    ∙ get_or-take g.cols (drop (r * g.cols) g.values) (start + col) (pos 0) (omega arith) ∙ get_or-drop (r * g.cols) g.values (start + col) (pos 0)

-- a row has as many values as the grid has columns
pub length-row : (g : Plane) (r : ℕ) → length g.values ≡ g.rows * g.cols → r < g.rows → length (row_of g r) ≡ g.cols
length-row g r long less =
    let m = mul-le (r + 1) g.cols g.rows g.cols (omega arith) (omega arith) in
    let rest = length-drop (r * g.cols) g.values in
    length-take-le g.cols (drop (r * g.cols) g.values) (omega (arith, m, rest))

-- one more own row was put
pub fill-next : (g : Plane) (top left row reach end : ℕ) (b new : Part) (cells : List ℤ) → IsPart b → HoldsOwnBelow g top left row b → reach ≡ b.reach → end ≡ left + b.cols → end ≤ g.cols
    → cells ≡ take (end - left) (drop left (row_of g (top + row))) → length cells ≡ b.cols → row < b.rows → new ≡ with_cells (reach + row) reach cells b
    → HoldsOwnBelow g top left (row + 1) new
fill-next g top left row reach end b new cells s done high to fits is long less same r col low lt =
    let y = reach + row in
    let room = row-room b y reach s (omega arith) (omega arith) in
    let reach' : new.reach ≡ reach = ap (λ (q : Part). q.reach) same ∙ sym high in
    let cols' : new.cols ≡ b.cols = ap (λ (q : Part). q.cols) same in
    (λ j. at (same j) (reach' j + r) (reach' j + col))
    ∙ below-or r row
    (λ l. with-other b y reach (reach + r) (reach + col) cells room (omega arith) (omega arith) (λ e _ _. omega arith)
    ∙ (λ j. at b (high j + r) (high j + col)) ∙ done r col l (omega arith))
    (λ h. let e : row ≡ r = omega arith in
    ap (λ n. at (with_cells y reach cells b) (reach + n) (reach + col)) (sym e)
    ∙ with-inside b y reach col cells room (omega arith)
    ∙ ap (λ xs. get_or xs col (pos 0)) is ∙ row-cells g (top + row) left end col (omega arith) fits
    ∙ ap (λ n. cell g (top + n) (left + col)) e)

-- ---- lists that grow

-- one more number
range-more : (a n : ℕ) → range_with_len a (suc n) ≡ range_with_len a n ++ (a + n) ∷ []
range-more a zero = let e : a ≡ a + 0 = omega arith in ap (λ (m : ℕ). m ∷ []) e
range-more a (suc n) = let e : a + 1 + n ≡ a + suc n = omega arith in ap (λ ms. a ∷ ms) (range-more (a + 1) n ∙ ap (λ (m : ℕ). range_with_len (a + 1) n ++ m ∷ []) e)

-- one more row
pub rows-more : (f : ℕ → List ℤ) (start before after : List ℤ) (n : ℕ) → before ≡ start ++ flat_map f (range_with_len 0 n) → after ≡ before ++ f n → after ≡ start ++ flat_map f (range_with_len 0 (n + 1))
rows-more f start before after n done is =
    let e : 0 + n ≡ n = omega arith in
    let next : suc n ≡ n + 1 = omega arith in
    is ∙ ap (λ xs. xs ++ f n) done ∙ flat_map_more f start (range_with_len 0 n) n
    ∙ ap (λ ms. start ++ flat_map f ms) (sym (range-more 0 n ∙ ap (λ (m : ℕ). range_with_len 0 n ++ m ∷ []) e) ∙ ap (range_with_len 0) next)

-- one more element
pub pushed : {X : Type 0} (P : ℕ → X → Type 0) (xs ys : List X) (x d : X) (n : ℕ) → ys ≡ xs ++ x ∷ [] → length xs ≡ n → ((j : ℕ) → j < n → P j (get_or xs j d)) → P n x
    → (j : ℕ) → j < n + 1 → P j (get_or ys j d)
pushed P xs ys x d n is long done new j less =
    subst (λ zs. P j (get_or zs j d)) (sym is)
    (below-or j n
    (λ l. subst (P j) (sym (get_or_append_left xs (x ∷ []) d j (omega arith))) (done j l))
    (λ h. let same : n ≡ j = omega arith in
    subst (P j) (sym (get_or_push xs x d j (long ∙ same))) (subst (λ m. P m x) same new)))

-- what was written back into a vector of the same length
pub written : {X : Type 0} (len : ℕ) (old xs : List X) → len ≡ length old → length xs ≡ length old → take len (xs ++ drop (length xs) old) ≡ xs
written len old xs many long = ap (λ n. take n (xs ++ drop (length xs) old)) (many ∙ sym long) ∙ take-append_seam xs (drop (length xs) old)

-- a row of the grid that starts where a tile does has room for the tile's columns
pub row-room-of : (p : Plan) (g : Plane) (t row : ℕ) → IsPlan p → t < tiles p → length g.values ≡ g.rows * g.cols → g.rows ≡ p.rows → g.cols ≡ p.cols → row < tall p t → left p t + wide p t ≤ length (row_of g (top p t + row))
row-room-of p g t row v less long rows cols low =
    let one = tile-tall p t v less in let two = tile-wide p t v less in
    let size = length-row g (top p t + row) long (omega arith) in
    omega arith
