-- An edge's cells in its receiver's block, and the lists of blocks and of messages after that.
use Rattle.std.proofs.Common.{◌≡◌, ◌∙◌, sym, ap, subst, ℕ, ◌+◌, ◌-◌, ◌*◌, ◌<◌, ◌≤◌, ℤ, pos, Option, Some, List, [], length, length-set, get_or, set, arith, inl, inr}
use Rattle.std.specs.Prelude.{◌==◌, if◌then◌else◌, slice_get}
use Rattle.std.specs.List.{All}
use Rattle.std.proofs.lemmas.Bool.{cases_eq}
use Rattle.std.proofs.lemmas.Int.{fits_signed_from_abs}
use Rattle.std.proofs.lemmas.List.{get_or-set_same, get_or-set_other}
use Rattle.std.proofs.lemmas.List.Elements.{All-weaker}
use Rattle.std.proofs.lemmas.Option.{slice_get-get_or, slice_get_within}
use Rattle.std.proofs.Common.{w64}
use Rattle.stencil_def.specs.Limits.{IsValue}
use Rattle.stencil_def.specs.Plane.{Plane}
use Rattle.stencil_def.specs.declared.rule.Rule.{Rule}
use Rattle.halo_message.specs.Elements.{IsWord}
use Rattle.cell_lanes.specs.Block.{Part, at, part_of}
use Rattle.cell_lanes.proofs.WindowFacts.{below-or}
use Rattle.grid_tiles.specs.declared.serial_edges.Link.{Link}
use Rattle.grid_tiles.specs.declared.TheConstants.{DOWN, LEFT, RIGHT}
use Rattle.grid_tiles.specs.declared.tile.TileEdge.{TileEdge}
use Rattle.grid_tiles.specs.Plan.{Plan, number, tiles}
use Rattle.grid_tiles.specs.Edges.{edges}
use Rattle.grid_tiles.specs.Tiles.{block_at}
use Rattle.grid_tiles.specs.Blocks.{AreLinked, AreSized, HasRead, Holding, IsBrought, IsLinked, IsPut, IsReady, IsSized, Keeps, Suit, down, land_col, land_row, leave_col, leave_row, right, tall, wide}
use Rattle.grid_tiles.proofs.BringFacts.{Brings}
use Rattle.grid_tiles.proofs.OutsideFacts.{sized-same}
use Rattle.grid_tiles.proofs.Planning.{number-inside}
use Rattle.grid_tiles.proofs.SeamFacts.{read-same}

-- a value of a grid is one of 64 bits
pub all-words : (xs : List ℤ) → All IsValue xs → All IsWord xs
all-words = All-weaker IsValue IsWord (λ x small. fits_signed_from_abs w64 x (omega arith))

-- ---- lists of blocks

-- what stands at a place doesn't depend on what stands behind the last
pub any-default : {X : Type 0} (xs : List X) (i : ℕ) (d e : X) → i < length xs → get_or xs i d ≡ get_or xs i e
any-default xs i d e less = some-same (get_or xs i d) (get_or xs i e) (sym (slice_get-get_or xs i d less) ∙ slice_get-get_or xs i e less)
  where
    some-same : {Y : Type 0} (a b : Y) → ◌≡◌ {A = Option Y} (Some a) (Some b) → a ≡ b
    some-same a b same = cc

-- a block as the code finds it
pub block-found : (p : Plan) (blocks : List Part) (t : ℕ) (d : Part) → AreSized p blocks → t < tiles p → get_or blocks t d ≡ block_at blocks t
block-found p blocks t d s less = let count = s.count in any-default blocks t d (part_of 0 0 0 []) (omega arith)

-- a block that was put, and any other
pub at-set : (blocks : List Part) (t : ℕ) (b : Part) → t < length blocks → block_at (set blocks t b) t ≡ b
at-set blocks t b less = get_or-set_same blocks t b (part_of 0 0 0 []) less

pub at-other : (blocks : List Part) (u t : ℕ) (b : Part) → (u ≡ t → ⊥) → block_at (set blocks t b) u ≡ block_at blocks u
at-other blocks u t b apart = get_or-set_other blocks t u b (part_of 0 0 0 []) apart

-- a block of the same size in the place of another
pub sized-set : (p : Plan) (blocks : List Part) (t : ℕ) (b : Part) → AreSized p blocks → t < tiles p → IsSized p t b → AreSized p (set blocks t b)
sized-set p blocks t b s less is =
    let count = s.count in
    record {
      count = length-set blocks t b ∙ count;
      each = λ u l. elim (cases_eq u t) [
        | inl here ↦ subst (λ n. IsSized p n (block_at (set blocks t b) n)) (sym here) (subst (IsSized p t) (sym (at-set blocks t b (omega arith))) is)
        | inr apart ↦ subst (IsSized p u) (sym (at-other blocks u t b apart)) (s.each u l)
      ];
    }

-- where it keeps what it reads, so do all
pub keeps-set : (p : Plan) (g : Plane) (rule : Rule) (blocks : List Part) (t : ℕ) (b : Part) → t < length blocks → Holding p g rule t (block_at blocks t) b → Keeps p g rule blocks (set blocks t b)
keeps-set p g rule blocks t b room keep u y x less lt was =
    elim (cases_eq u t) [
      | inl here ↦
          subst (λ n. HasRead p g rule n (block_at (set blocks t b) n) y x) (sym here)
          (subst (λ q. HasRead p g rule t q y x) (sym (at-set blocks t b room))
          (keep y x (subst (λ n. x < wide p n + 2 * p.shape.reach) here lt) (subst (λ n. HasRead p g rule n (block_at blocks n) y x) here was)))
      | inr apart ↦ subst (λ q. HasRead p g rule u q y x) (sym (at-other blocks u t b apart)) was
    ]

-- ---- an edge's cells

-- the cells that were copied out of the sender's block and put into the receiver's have the grid's reading there
pub cells-brought : (p : Plan) (g : Plane) (rule : Rule) (x : TileEdge) (blocks : List Part) (values : List ℤ) (b : Part) (sender receiver : Part) (y z y' z' : ℕ) → Brings p x → Suit p g rule → IsReady p g rule blocks x
    → sender ≡ block_at blocks x.from → y ≡ leave_row p x → z ≡ leave_col p x → y' ≡ land_row p x → z' ≡ land_col p x
    → ((k j : ℕ) → k < x.rows → j < x.cols → get_or values (k * x.cols + j) (pos 0) ≡ at sender (y + k) (z + j))
    → IsPut y' z' x.rows x.cols values receiver b
    → (k j : ℕ) → k < x.rows → j < x.cols → HasRead p g rule x.to b (land_row p x + k) (land_col p x + j)
cells-brought p g rule x blocks values b sender receiver y z y' z' brings suit ready here row col row' col' copied put k j low less =
    (λ i. at b (sym row' i + k) (sym col' i + j))
    ∙ put.cells k j low less
    ∙ copied k j low less
    ∙ (λ i. at (here i) (row i + k) (col i + j))
    ∙ ready k j low less
    ∙ read-same g rule (down p x.from (leave_row p x + k)) (down p x.to (land_row p x + k)) (right p x.from (leave_col p x + j)) (right p x.to (land_col p x + j))
    (sym (brings.rows g rule k suit)) (sym (brings.cols g rule j suit))

-- and all that had it keeps it
pub cells-keep : (p : Plan) (g : Plane) (rule : Rule) (x : TileEdge) (values : List ℤ) (old b : Part) (y' z' : ℕ) → IsSized p x.to old → y' ≡ land_row p x → z' ≡ land_col p x
    → IsPut y' z' x.rows x.cols values old b
    → ((k j : ℕ) → k < x.rows → j < x.cols → HasRead p g rule x.to b (land_row p x + k) (land_col p x + j)) → Holding p g rule x.to old b
cells-keep p g rule x values old b y' z' s row' col' put brought r i less was =
    let high = s.reach in let cols = s.cols in
    let rest : (y' ≤ r → r < y' + x.rows → z' ≤ i → i < z' + x.cols → ⊥) → HasRead p g rule x.to b r i = λ apart. put.rest r i (omega arith) apart ∙ was in
    below-or r y'
    (λ l. rest (λ a c d e. omega arith))
    (λ a. below-or r (y' + x.rows)
    (λ c. below-or i z'
    (λ l. rest (λ q c d e. omega arith))
    (λ d. below-or i (z' + x.cols)
    (λ e.
    let k : land_row p x + (r - y') ≡ r = omega arith in
    let j : land_col p x + (i - z') ≡ i = omega arith in
    subst (λ q. HasRead p g rule x.to b q i) k (subst (λ q. HasRead p g rule x.to b (land_row p x + (r - y')) q) j (brought (r - y') (i - z') (omega arith) (omega arith))))
    (λ m. rest (λ q c d e. omega arith))))
    (λ m. rest (λ q c d e. omega arith)))

-- also in the list of blocks
pub brought-set : (p : Plan) (g : Plane) (rule : Rule) (x : TileEdge) (blocks : List Part) (b : Part) → x.to < length blocks
    → ((k j : ℕ) → k < x.rows → j < x.cols → HasRead p g rule x.to b (land_row p x + k) (land_col p x + j)) → IsBrought p g rule (set blocks x.to b) x
brought-set p g rule x blocks b room brought k j low less = subst (λ q. HasRead p g rule x.to q (land_row p x + k) (land_col p x + j)) (sym (at-set blocks x.to b room)) (brought k j low less)

-- the receiver's block afterwards
pub put-sized : (p : Plan) (t : ℕ) (y x rows cols : ℕ) (values : List ℤ) (old new : Part) → IsSized p t old → IsPut y x rows cols values old new → IsSized p t new
put-sized p t y x rows cols values old new s put = sized-same p t old new s put.size put.limits

-- ---- some edges

-- what is kept stays ready, and what was brought stays brought
pub keeps-more : (p : Plan) (g : Plane) (rule : Rule) (a b c : List Part) → Keeps p g rule a b → Keeps p g rule b c → Keeps p g rule a c
keeps-more p g rule a b c one two t y x less lt was = two t y x less lt (one t y x less lt was)

-- what is ready stays so
pub ready-kept : (p : Plan) (g : Plane) (rule : Rule) (x : TileEdge) (old new : List Part) → Brings p x → Keeps p g rule old new → IsReady p g rule old x → IsReady p g rule new x
ready-kept p g rule x old new brings keep ready k j low less =
    let fits = brings.leave_cols in
    keep x.from (leave_row p x + k) (leave_col p x + j) brings.from (omega arith) (ready k j low less)

-- and so does what was brought
pub brought-kept : (p : Plan) (g : Plane) (rule : Rule) (x : TileEdge) (old new : List Part) → Brings p x → Keeps p g rule old new → IsBrought p g rule old x → IsBrought p g rule new x
brought-kept p g rule x old new brings keep brought k j low less =
    let fits = brings.land_cols in
    keep x.to (land_row p x + k) (land_col p x + j) brings.to (omega arith) (brought k j low less)

-- one more pair has passed its cells
pub linked-next : (p : Plan) (k n round : ℕ) (links : List Link) (link : Link) (x : TileEdge) → AreLinked p k n links → n < length (edges p) → slice_get (edges p) n ≡ Some x → k + 1 ≡ round
    → IsLinked p x round link → AreLinked p k (n + 1) (set links n link)
linked-next p k n round links link x s less at next is =
    let count = s.count in
    record {
      count = length-set links n link ∙ count;
      passed = λ e y d l there. elim (cases_eq e n) [
        | inl here ↦
            let same : x ≡ y = edge-same x y (sym at ∙ ap (slice_get (edges p)) (sym here) ∙ there) in
            subst (λ m. IsLinked p y (k + 1) (get_or (set links n link) m d)) (sym here)
            (subst (IsLinked p y (k + 1)) (sym (get_or-set_same links n link d (omega arith)))
            (subst (λ m. IsLinked p y m link) (sym next) (subst (λ q. IsLinked p q round link) same is)))
        | inr apart ↦ subst (IsLinked p y (k + 1)) (sym (get_or-set_other links n e link d apart)) (s.passed e y d (omega arith) there)
      ];
      rest = λ e y d l there. subst (IsLinked p y k) (sym (get_or-set_other links n e link d (λ same. omega arith))) (s.rest e y d (omega arith) there);
    }
  where
    edge-same : (x y : TileEdge) → ◌≡◌ {A = Option TileEdge} (Some x) (Some y) → x ≡ y
    edge-same x y e = cc

-- all have
pub linked-all : (p : Plan) (k n round : ℕ) (links : List Link) → AreLinked p k n links → length (edges p) ≤ n → k + 1 ≡ round → AreLinked p round 0 links
linked-all p k n round links s all next = record {
  count = s.count;
  passed = λ e x d l there. absurd (omega arith);
  rest = λ e x d l there. subst (λ r. IsLinked p x r (get_or links e d)) next (s.passed e x d (let h = slice_get_within (edges p) e x there in omega arith) there);
}

-- ---- the blocks one after another

-- one more block has what the first ones have
pub each-next : (P : ℕ → Part → Type 0) (blocks : List Part) (n : ℕ) (b : Part) → n < length blocks → ((t : ℕ) → t < n → P t (block_at blocks t)) → P n b
    → (t : ℕ) → t < n + 1 → P t (block_at (set blocks n b) t)
each-next P blocks n b room done new t less = elim (cases_eq t n) [
  | inl here ↦ subst (λ m. P m (block_at (set blocks n b) m)) (sym here) (subst (P n) (sym (at-set blocks n b room)) new)
  | inr apart ↦ subst (P t) (sym (at-other blocks t n b apart)) (done t (omega arith))
]

-- and those behind it are as they were
pub rest-next : (old blocks : List Part) (n : ℕ) (b : Part) → ((t : ℕ) → n ≤ t → block_at blocks t ≡ block_at old t) → (t : ℕ) → n + 1 ≤ t → block_at (set blocks n b) t ≡ block_at old t
rest-next old blocks n b rest t above = at-other blocks t n b (λ e. omega arith) ∙ rest t (omega arith)

-- ---- as the code finds the places

-- where the cells leave, and where they land
pub leave-row : (p : Plan) (x : TileEdge) (y rows reach : ℕ) → y ≡ (if x.tag == DOWN then rows else reach) → rows ≡ tall p x.from → reach ≡ p.shape.reach → y ≡ leave_row p x
leave-row p x y rows reach is many far = is ∙ (λ i. if x.tag == DOWN then many i else far i)

pub leave-col : (p : Plan) (x : TileEdge) (y cols reach : ℕ) → y ≡ (if x.tag == RIGHT then cols else (if x.tag == LEFT then reach else 0)) → cols ≡ wide p x.from → reach ≡ p.shape.reach → y ≡ leave_col p x
leave-col p x y cols reach is many far = is ∙ (λ i. if x.tag == RIGHT then many i else (if x.tag == LEFT then far i else 0))

pub land-row : (p : Plan) (x : TileEdge) (y rows reach : ℕ) → y ≡ (if x.tag == DOWN then 0 else (if x.tag == RIGHT then reach else (if x.tag == LEFT then reach else reach + rows))) → rows ≡ tall p x.to
    → reach ≡ p.shape.reach → y ≡ land_row p x
land-row p x y rows reach is many far = is ∙ (λ i. if x.tag == DOWN then 0 else (if x.tag == RIGHT then far i else (if x.tag == LEFT then far i else far i + many i)))

pub land-col : (p : Plan) (x : TileEdge) (y cols reach : ℕ) → y ≡ (if x.tag == LEFT then reach + cols else 0) → cols ≡ wide p x.to → reach ≡ p.shape.reach → y ≡ land_col p x
land-col p x y cols reach is many far = is ∙ (λ i. if x.tag == LEFT then far i + many i else 0)

-- a block that the code finds has its tile's size
pub found-sized : (p : Plan) (blocks : List Part) (t : ℕ) (d : Part) → AreSized p blocks → t < tiles p → IsSized p t (get_or blocks t d)
found-sized p blocks t d s less = subst (IsSized p t) (sym (block-found p blocks t d s less)) (s.each t less)

-- the block of a tile, as the code finds it by the tile's row and column
pub found-at : (p : Plan) (blocks : List Part) (a b count : ℕ) (d : Part) → AreSized p blocks → count ≡ p.tile_cols → a < p.tile_rows → b < p.tile_cols → d ≡ get_or blocks (a * count + b) d
    → d ≡ block_at blocks (number p a b)
found-at p blocks a b count d s same l m is = is ∙ (λ i. get_or blocks (a * same i + b) d) ∙ block-found p blocks (number p a b) d s (number-inside p a b l m)
