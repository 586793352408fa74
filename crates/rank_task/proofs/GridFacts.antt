-- The grid that the blocks have: where each block has the rows of its rank, the rows of all of them, one block under the
-- other, are the grid's.
use Rattle.std.proofs.Common.{◌≡◌, ◌∙◌, refl, sym, ap, subst, ℕ, zero, suc, ◌+◌, ◌-◌, ◌*◌, ◌<◌, ◌≤◌, ℤ, pos, List, [], ◌∷◌, ◌++◌, length, take, drop, length-take-le, get_or, arith}
use Rattle.std.specs.List.{flat_map, range_with_len}
use Rattle.std.proofs.lemmas.List.{drop-drop, drop-take, ext_get_or, flat_map_more, get_or-drop, get_or-take, get_or_append_left, get_or_push, length-drop, take-append-drop, take-take, take_all, take_more}
use Rattle.std.specs.List.{All}
use Rattle.std.proofs.lemmas.List.Concat.{flat_map-cons}
use Rattle.std.proofs.lemmas.List.Elements.{All-append, All-drop, All-nil, All-take}
use Rattle.stencil_def.specs.Limits.{IsValue}
use Rattle.stencil_def.specs.declared.rule.Rule.{Rule}
use Rattle.stencil_def.specs.Step.{fold_plane}
use Rattle.stencil_def.proofs.FoldFacts.{fold-length}
use Rattle.rank_task.proofs.StepFacts.{suit-next}
use Rattle.std.proofs.Math.Seq.{take-append_seam}
use Rattle.std.proofs.lemmas.Nat.{mul-le}
use Rattle.stencil_def.specs.Plane.{IsPlane, Plane, cell, plane_of, row_of}
use Rattle.cell_lanes.specs.Block.{HoldsOwn, IsPart, Part, at, own_cells, width, with_cells}
use Rattle.cell_lanes.specs.Block.{HoldsOwnBelow}
use Rattle.cell_lanes.proofs.BlockFacts.{own-room}
use Rattle.cell_lanes.proofs.WindowFacts.{below-or}
use Rattle.halo_plan.specs.Plan.{IsPlan, Plan, first_row}
use Rattle.halo_plan.proofs.Planning.{block-some, row-inside}
use Rattle.rank_task.specs.Ranks.{gathered, own_values}
use Rattle.rank_task.specs.Blocks.{AreSized, HoldGrid, IsSized, Suit, block_at, no_part}
use Rattle.rank_task.proofs.RowFacts.{own-at, row-room, with-apart, with-inside}
use Rattle.rank_task.proofs.HaloFacts.{first-last, first-zero}

-- ---- parts of a list, one after another

-- what stands from place a up to and without place b
abbrev pub between : List ℤ → ℕ → ℕ → List ℤ
between xs a b = take (b - a) (drop a xs)

-- two such parts, of which the second begins where the first ends, are one
join : (xs : List ℤ) (a b c : ℕ) → a ≤ b → b ≤ c → between xs a b ++ between xs b c ≡ between xs a c
join xs a b c low high =
    let sum : b - a + (c - b) ≡ c - a = omega arith in
    let there : a + (b - a) ≡ b = omega arith in
    (λ i. sym (take-take (b - a) (c - a) (drop a xs) (omega arith)) i
    ++ (ap (λ m. take (c - b) (drop m xs)) (sym there) ∙ ap (take (c - b)) (sym (drop-drop (b - a) a xs)) ∙ sym (drop-take (b - a) (c - b) (drop a xs)) ∙ ap (λ m. drop (b - a) (take m (drop a xs))) sum) i)
    ∙ take-append-drop (b - a) (between xs a c)

-- there is nothing between a place and itself
empty-between : (xs : List ℤ) (a b : ℕ) → a ≡ b → [] ≡ between xs a b
empty-between xs a b same = let none : 0 ≡ b - a = omega arith in ap (λ n. take n (drop a xs)) none

-- pieces that lie one after another are the whole
join-range : (xs : List ℤ) (f : ℕ → List ℤ) (t : ℕ → ℕ) (a n : ℕ) → ((r : ℕ) → t r ≤ t (r + 1)) → ((r : ℕ) → a ≤ r → r < a + n → f r ≡ between xs (t r) (t (r + 1)))
    → (flat_map f (range_with_len a n) ≡ between xs (t a) (t (a + n))) × (t a ≤ t (a + n))
join-range xs f t a zero up each = let same : a ≡ a + 0 = omega arith in let e = ap t same in (empty-between xs (t a) (t (a + 0)) e, omega arith)
join-range xs f t a (suc n) up each =
    let rest = join-range xs f t (a + 1) n up (λ r low high. each r (omega arith) (omega arith)) in
    let end : a + 1 + n ≡ a + suc n = omega arith in
    let first = up a in
    let far = rest.1 in
    let same = ap t end in (
      flat_map-cons f a (range_with_len (a + 1) n)
          ∙ (λ i. each a (omega arith) (omega arith) i ++ rest.0 i)
          ∙ join xs (t a) (t (a + 1)) (t (a + 1 + n)) first far
          ∙ ap (λ m. between xs (t a) (t m)) end,
      omega arith,
    )

-- the same of pieces that are made of the elements of a list
join-list : {X : Type 0} (xs : List ℤ) (f : X → List ℤ) (d : X) (t : ℕ → ℕ) (a : ℕ) (ys : List X) → ((r : ℕ) → t r ≤ t (r + 1))
    → ((i : ℕ) → i < length ys → f (get_or ys i d) ≡ between xs (t (a + i)) (t (a + i + 1)))
    → (flat_map f ys ≡ between xs (t a) (t (a + length ys))) × (t a ≤ t (a + length ys))
join-list xs f d t a [] up each = let same : a ≡ a + 0 = omega arith in let e = ap t same in (empty-between xs (t a) (t (a + 0)) e, omega arith)
join-list xs f d t a (y ∷ ys) up each =
    let rest = join-list xs f d t (a + 1) ys up
    (λ i less. let e : a + suc i ≡ a + 1 + i = omega arith in each (suc i) (omega arith) ∙ (λ j. between xs (t (e j)) (t (e j + 1)))) in
    let end : a + 1 + length ys ≡ a + suc (length ys) = omega arith in
    let here : a + 0 ≡ a = omega arith in
    let first = up a in let far = rest.1 in let same = ap t end in (
      flat_map-cons f y ys
          ∙ (λ i. (each 0 (omega arith) ∙ (λ j. between xs (t (here j)) (t (here j + 1)))) i ++ rest.0 i)
          ∙ join xs (t a) (t (a + 1)) (t (a + 1 + length ys)) first far
          ∙ ap (λ m. between xs (t a) (t m)) end,
      omega arith,
    )

-- ---- the rows of a block

-- a row is the part of the values between its first place and the next row's
row-between : (g : Plane) (r : ℕ) → row_of g r ≡ between g.values (r * g.cols) ((r + 1) * g.cols)
row-between g r = let e : g.cols ≡ (r + 1) * g.cols - r * g.cols = omega arith in ap (λ n. take n (drop (r * g.cols) g.values)) e

-- a row has as many values as the grid has columns, and its cells are those of the row
pub length-row : (g : Plane) (r : ℕ) → length g.values ≡ g.rows * g.cols → r < g.rows → length (row_of g r) ≡ g.cols
length-row g r long less =
    let m = mul-le (r + 1) g.cols g.rows g.cols (omega arith) (omega arith) in
    let rest = length-drop (r * g.cols) g.values in
    length-take-le g.cols (drop (r * g.cols) g.values) (omega (arith, m, rest))

pub row-at : (g : Plane) (r col : ℕ) → col < g.cols → get_or (row_of g r) col (pos 0) ≡ cell g r col
row-at g r col less = get_or-take g.cols (drop (r * g.cols) g.values) col (pos 0) less ∙ get_or-drop (r * g.cols) g.values col (pos 0)

-- and so has an own row of a block
length-own : (b : Part) (row : ℕ) → IsPart b → row < b.rows → length (own_cells b row) ≡ b.cols
length-own b row s less =
    let room = own-room b.rows b.cols b.reach row b.values s less in
    let start = (b.reach + row) * width b + b.reach in
    let rest = length-drop start b.values in
    length-take-le b.cols (drop start b.values) (omega arith)

-- where the block has the grid's cells, its own row is the grid's row
own-row : (g : Plane) (top : ℕ) (b : Part) (row : ℕ) → IsPart b → HoldsOwn g top 0 b → b.cols ≡ g.cols → row < b.rows → length g.values ≡ g.rows * g.cols → top + row < g.rows
    → own_cells b row ≡ row_of g (top + row)
own-row g top b row s holds wide less long inside =
    let size = length-own b row s less in
    ext_get_or (pos 0) (own_cells b row) (row_of g (top + row)) (size ∙ wide ∙ sym (length-row g (top + row) long inside))
    (λ col lt. let low : col < b.cols = omega arith in let none : 0 + col ≡ col = omega arith in
    own-at b row col low ∙ holds row col less low ∙ ap (cell g (top + row)) none ∙ sym (row-at g (top + row) col (omega arith)))

-- and its own rows together are the rows of the grid from its first one on
own-values : (g : Plane) (top : ℕ) (b : Part) → IsPart b → HoldsOwn g top 0 b → b.cols ≡ g.cols → length g.values ≡ g.rows * g.cols → top + b.rows ≤ g.rows
    → own_values b ≡ between g.values (top * g.cols) ((top + b.rows) * g.cols)
own-values g top b s holds wide long inside =
    let t : ℕ → ℕ = λ r. (top + r) * g.cols in
    let none : top + 0 ≡ top = omega arith in
    (join-range g.values (own_cells b) t 0 b.rows (λ r. let m = mul-le (top + r) g.cols (top + (r + 1)) g.cols (omega arith) (omega arith) in m)
    (λ r low high. let e : top + r + 1 ≡ top + (r + 1) = omega arith in
    own-row g top b r s holds wide (omega arith) long (omega arith) ∙ row-between g (top + r) ∙ ap (λ n. between g.values ((top + r) * g.cols) (n * g.cols)) e)).0
    ∙ (λ i. between g.values (none i * g.cols) ((top + (zero-plus b.rows) i) * g.cols))
  where
    zero-plus : (n : ℕ) → 0 + n ≡ n
    zero-plus n = omega arith

-- ---- all blocks

-- where all blocks have the rows of a grid, what is gathered from them is that grid
pub gathered-is : (p : Plan) (g : Plane) (blocks : List Part) → IsPlan p → AreSized p blocks → HoldGrid p g blocks → g.rows ≡ p.rows → g.cols ≡ p.cols → length g.values ≡ p.rows * p.cols
    → gathered p blocks ≡ g
unfolding gathered
gathered-is p g blocks v s holds rows cols long =
    let ranks = v.ranks in
    let some : 0 < p.ranks = omega arith in
    let t : ℕ → ℕ = λ i. first_row p i * g.cols in
    let count = s.count in
    let whole : length g.values ≡ g.rows * g.cols = long ∙ (λ i. sym rows i * sym cols i) in
    let all = (join-list g.values own_values no_part t 0 blocks
    (λ i. let low = block-some p i v in mul-le (first_row p i) g.cols (first_row p (i + 1)) g.cols (omega arith) (omega arith))
    (λ i less. let e : 0 + i ≡ i = omega arith in
    let size = s.each i (omega arith) in let many = size.rows in
    let low = block-some p i v in
    let end = row-inside (i + 1) p.rows p.ranks (omega arith) some in
    let sum : first_row p i + (block_at blocks i).rows ≡ first_row p (i + 1) = omega arith in
    own-values g (first_row p i) (block_at blocks i) size.limits (holds i (omega arith)) (size.cols ∙ sym cols) whole (omega arith)
    ∙ ap (λ n. between g.values (first_row p i * g.cols) (n * g.cols)) sum
    ∙ (λ j. between g.values (first_row p (sym e j) * g.cols) (first_row p (sym e j + 1) * g.cols)))).0 in
    let zero' = first-zero p some in
    let count' : 0 + length blocks ≡ p.ranks = omega arith in
    let last : first_row p (0 + length blocks) ≡ g.rows = ap (first_row p) count' ∙ first-last p some ∙ sym rows in
    let values : flat_map own_values blocks ≡ g.values =
    let rest = length-drop (0 * g.cols) g.values in
    all ∙ (λ i. between g.values (zero' i * g.cols) (last i * g.cols)) ∙ take_all (g.rows * g.cols - 0 * g.cols) (drop (0 * g.cols) g.values) (omega arith)
    ∙ drop-none g.cols g.values in
    (λ i. record { rows = sym rows i; cols = sym cols i; values = values i })
  where
    drop-none : (n : ℕ) (xs : List ℤ) → drop (0 * n) xs ≡ xs
    drop-none n xs = let e : 0 * n ≡ 0 = omega arith in ap (λ m. drop m xs) e

-- ---- the rows of a block, as they are put

-- one more row of a grid was put at its place in a block
pub fill-next : (p : Plan) (g : Plane) (i row reach : ℕ) (b new : Part) (cells : List ℤ) → IsSized p i b → HoldsOwnBelow g (first_row p i) 0 row b
    → new ≡ with_cells (reach + row) reach cells b → reach ≡ p.reach → cells ≡ row_of g (first_row p i + row) → length cells ≡ b.cols → g.cols ≡ b.cols → row < b.rows → IsPart new
    → HoldsOwnBelow g (first_row p i) 0 (row + 1) new
fill-next p g i row reach b new cells s done same far is long wide less fine r col low lt =
    let high = s.reach in
    let y = reach + row in
    let here : reach ≡ b.reach = omega arith in
    let room = row-room b y reach s.limits (omega arith) (omega arith) in
    let fits : reach + length cells ≤ width b = omega arith in
    let reach' : new.reach ≡ reach = ap (λ (q : Part). q.reach) same ∙ sym here in
    let cols' : new.cols ≡ b.cols = ap (λ (q : Part). q.cols) same in
    let none : 0 + col ≡ col = omega arith in
    (λ j. at (same j) (reach' j + r) (reach' j + col))
    ∙ below-or r row
    (λ l. with-apart b y reach (reach + r) cells room fits (λ e. omega arith) (reach + col) (omega arith)
    ∙ (λ j. at b (here j + r) (here j + col)) ∙ done r col l (omega arith))
    (λ h. let e : row ≡ r = omega arith in
    ap (λ n. at (with_cells y reach cells b) (reach + n) (reach + col)) (sym e)
    ∙ with-inside b y reach col cells room (omega arith)
    ∙ ap (λ xs. get_or xs col (pos 0)) is ∙ row-at g (first_row p i + row) col (omega arith)
    ∙ (λ j. cell g (first_row p i + e j) (sym none j)))

-- ---- lists that grow

-- a range with one number more at its end
range-more : (a n : ℕ) → range_with_len a (suc n) ≡ range_with_len a n ++ (a + n) ∷ []
range-more a zero = let e : a ≡ a + 0 = omega arith in ap (λ (m : ℕ). m ∷ []) e
range-more a (suc n) = let e : a + 1 + n ≡ a + suc n = omega arith in ap (λ ms. a ∷ ms) (range-more (a + 1) n ∙ ap (λ (m : ℕ). range_with_len (a + 1) n ++ m ∷ []) e)

-- one more row
pub rows-more : (f : ℕ → List ℤ) (start before after : List ℤ) (n : ℕ) → before ≡ start ++ flat_map f (range_with_len 0 n) → after ≡ before ++ f n → after ≡ start ++ flat_map f (range_with_len 0 (n + 1))
rows-more f start before after n done is =
    let e : 0 + n ≡ n = omega arith in
    let next : suc n ≡ n + 1 = omega arith in
    is ∙ ap (λ xs. xs ++ f n) done ∙ flat_map_more f start (range_with_len 0 n) n
    ∙ ap (λ ms. start ++ flat_map f ms) (sym (range-more 0 n ∙ ap (λ (m : ℕ). range_with_len 0 n ++ m ∷ []) e) ∙ ap (range_with_len 0) next)

-- one more element
pub pushed : {X : Type 0} (P : ℕ → X → Type 0) (xs ys : List X) (x d : X) (n : ℕ) → ys ≡ xs ++ x ∷ [] → length xs ≡ n → ((j : ℕ) → j < n → P j (get_or xs j d)) → P n x
    → (j : ℕ) → j < n + 1 → P j (get_or ys j d)
pushed P xs ys x d n is long done new j less =
    subst (λ zs. P j (get_or zs j d)) (sym is)
    (below-or j n
    (λ l. subst (P j) (sym (get_or_append_left xs (x ∷ []) d j (omega arith))) (done j l))
    (λ h. let same : n ≡ j = omega arith in
    subst (P j) (sym (get_or_push xs x d j (long ∙ same))) (subst (λ m. P m x) same new)))

-- one more block
pub blocks-more : (blocks : List Part) (k : ℕ) (b : Part) (before : List ℤ) → k < length blocks → b ≡ get_or blocks k b → before ≡ flat_map own_values (take k blocks)
    → before ++ own_values b ≡ flat_map own_values (take (k + 1) blocks)
blocks-more blocks k b before less is done =
    ap (λ xs. xs ++ own_values b) done ∙ flat_map_more own_values [] (take k blocks) b
    ∙ ap (flat_map own_values) (ap (λ (q : Part). take k blocks ++ q ∷ []) is ∙ sym (take_more blocks k b less))

-- ---- the limits of the grid

-- values in range, also when they are gathered
all-flat : {X : Type 0} (f : X → List ℤ) (xs : List X) (d : X) → ((i : ℕ) → i < length xs → All IsValue (f (get_or xs i d))) → All IsValue (flat_map f xs)
all-flat f [] d each = All-nil IsValue
all-flat f (x ∷ xs) d each =
    subst (All IsValue) (sym (flat_map-cons f x xs))
    (All-append IsValue (f x) (flat_map f xs) (each 0 (omega arith)) (all-flat f xs d (λ i less. each (suc i) (omega arith))))

-- the own values of a block are in range
all-own : (b : Part) → IsPart b → All IsValue (own_values b)
all-own b s =
    all-flat (own_cells b) (range_with_len 0 b.rows) 0
    (λ i less. let row = get_or (range_with_len 0 b.rows) i 0 in let start = (b.reach + row) * width b + b.reach in
    All-take IsValue b.cols (drop start b.values) (All-drop IsValue start b.values s.values))

-- what is gathered keeps the limits of a grid
pub gathered-plane : (p : Plan) (g : Plane) (blocks : List Part) → IsPlan p → AreSized p blocks → gathered p blocks ≡ g → length g.values ≡ p.rows * p.cols → IsPlane (gathered p blocks)
unfolding gathered
gathered-plane p g blocks v s same long =
    let count = s.count in
    record {
      rows = v.rows;
      cols = v.cols;
      cells = v.cells;
      length = ap (λ (h : Plane). length h.values) same ∙ long;
      values = all-flat own_values blocks no_part (λ i less. all-own (block_at blocks i) (s.each i (omega arith)).limits);
    }

-- as the code makes a grid of the blocks' rows
pub gathered-from : (p : Plan) (blocks : List Part) (rows cols : ℕ) (values : List ℤ) → rows ≡ p.rows → cols ≡ p.cols → values ≡ flat_map own_values blocks → plane_of rows cols values ≡ gathered p blocks
unfolding gathered
gathered-from p blocks rows cols values many wide is = λ i. plane_of (many i) (wide i) (is i)

-- the values of what is gathered
pub gathered-values : (p : Plan) (blocks : List Part) → (gathered p blocks).values ≡ flat_map own_values blocks
unfolding gathered
gathered-values p blocks = refl

-- the blocks after n steps of a grid: what is gathered from them is the grid after the steps, and they have its rows
pub record AreAfter (p : Plan) (g : Plane) (rule : Rule) (n : ℕ) (blocks : List Part) : Type 0 where
  pub grid : gathered p blocks ≡ fold_plane g rule n
  pub plane : IsPlane (gathered p blocks)
  pub suit : Suit p (gathered p blocks) rule
  pub own : HoldGrid p (gathered p blocks) blocks

pub stepped : (p : Plan) (g : Plane) (rule : Rule) (n : ℕ) (blocks : List Part) → IsPlan p → AreSized p blocks → IsPlane g → Suit p g rule → HoldGrid p (fold_plane g rule n) blocks
    → AreAfter p g rule n blocks
stepped p g rule n blocks v s plane suit holds =
    let later = suit-next p g rule n suit in
    let long = fold-length g rule n plane ∙ (λ i. suit.rows i * suit.cols i) in
    let same = gathered-is p (fold_plane g rule n) blocks v s holds later.rows later.cols long in
    record {
      grid = same;
      plane = gathered-plane p (fold_plane g rule n) blocks v s same long;
      suit = subst (λ h. Suit p h rule) (sym same) later;
      own = subst (λ h. HoldGrid p h blocks) (sym same) holds;
    }

-- what was written back into a vector of the same length
pub written : {X : Type 0} (len : ℕ) (old xs : List X) → len ≡ length old → length xs ≡ length old → take len (xs ++ drop (length xs) old) ≡ xs
written len old xs many long = ap (λ n. take n (xs ++ drop (length xs) old)) (many ∙ sym long) ∙ take-append_seam xs (drop (length xs) old)
