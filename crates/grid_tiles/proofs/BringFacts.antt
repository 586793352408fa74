-- What the edges of a plan bring: an edge's cells leave own cells of its sender, or own rows with the columns that came,
-- and land in the halo of its receiver, where the same places of the grid are read, straight on or round the grid.
use Rattle.std.proofs.Common.{◌≡◌, ◌∙◌, sym, ap, subst, ℕ, ◌+◌, ◌-◌, ◌*◌, ◌<◌, ◌≤◌, ℤ, pos, ◌-ℤ◌, Some, List, length, arith, inl, inr}
use Rattle.std.specs.Prelude.{slice_get}
use Rattle.std.proofs.lemmas.Nat.{div-mul-add, mod-mul-add, mul-le}
use Rattle.std.proofs.lemmas.Option.{slice_get_within}
use Rattle.stencil_def.specs.Plane.{Plane}
use Rattle.stencil_def.specs.declared.rule.Around.{Around}
use Rattle.stencil_def.specs.declared.rule.Around.TheVariants.{Fixed, Wrap}
use Rattle.stencil_def.specs.declared.rule.Rule.{Rule}
use Rattle.stencil_def.specs.Step.{place}
use Rattle.cell_lanes.specs.Block.{Part}
use Rattle.cell_lanes.proofs.WindowFacts.{below-or}
use Rattle.grid_tiles.specs.declared.tile.TileEdge.{TileEdge}
use Rattle.grid_tiles.specs.Plan.{IsPlan, Plan, cols_of, first_col, first_row, number, rows_of, tiles}
use Rattle.grid_tiles.specs.Edges.{downward, edges, first_phase, leftward, next, nexts, rightward, upward}
use Rattle.grid_tiles.specs.Blocks.{AreReady, IsReady, OwnRead, Reads, SidesRead, Suit, down, land_col, land_row, leave_col, leave_row, left, right, tall, top, wide}
use Rattle.grid_tiles.proofs.EdgeFacts.{IsFirst, IsSecond, first-is, nexts-few, second-is}
use Rattle.grid_tiles.proofs.Planning.{cols-enough, cols-some, number-inside, rows-enough, rows-some}
use Rattle.grid_tiles.proofs.SeamFacts.{next-last, next-more, seam, wrap-one}

-- ---- a tile by its row and column

-- its first row and how many it has are those of its row, and its columns those of its column
pub top-of : (p : Plan) (a b : ℕ) → b < p.tile_cols → top p (number p a b) ≡ first_row p a
top-of p a b less = ap (first_row p) (div-mul-add a p.tile_cols b less)

pub tall-of : (p : Plan) (a b : ℕ) → b < p.tile_cols → tall p (number p a b) ≡ rows_of p a
tall-of p a b less = ap (rows_of p) (div-mul-add a p.tile_cols b less)

pub left-of : (p : Plan) (a b : ℕ) → b < p.tile_cols → left p (number p a b) ≡ first_col p b
left-of p a b less = ap (first_col p) (mod-mul-add a p.tile_cols b less)

pub wide-of : (p : Plan) (a b : ℕ) → b < p.tile_cols → wide p (number p a b) ≡ cols_of p b
wide-of p a b less = ap (cols_of p) (mod-mul-add a p.tile_cols b less)

-- a place has a next one only where there are two at least
has-two : (around : Around) (n i : ℕ) → i < nexts around n → 2 ≤ n
has-two Fixed n i less = omega arith
has-two Wrap n i less = below-or n 2 (λ few. let none = wrap-one n few in absurd (omega arith)) (λ two. two)

-- the next of some places is one of them
pub next-inside : (n i : ℕ) → i < n → next n i < n
next-inside n i less = below-or (i + 1) n
    (λ more. let e = next-more n i (λ s. omega arith) in omega arith)
    (λ last. let e = next-last n i (omega arith) in omega arith)

-- ---- the same places

-- the place of a row or a column, by the plan's numbers
by-rows : (p : Plan) (g : Plane) (rule : Rule) (z : ℤ) → Suit p g rule → place rule.around g.rows z ≡ place p.shape.around p.rows z
by-rows p g rule z s = λ i. place (s.around i) (s.rows i) z

by-cols : (p : Plan) (g : Plane) (rule : Rule) (z : ℤ) → Suit p g rule → place rule.around g.cols z ≡ place p.shape.around p.cols z
by-cols p g rule z s = λ i. place (s.around i) (s.cols i) z

-- a tile begins where the one whose next it is ends
seam-cols : (p : Plan) (b m : ℕ) → IsPlan p → b < nexts p.shape.around p.tile_cols
    → place p.shape.around p.cols (pos (first_col p (next p.tile_cols b) + m) -ℤ pos p.shape.reach) ≡ place p.shape.around p.cols (pos (first_col p (b + 1) + m) -ℤ pos p.shape.reach)
seam-cols p b m v less =
    let few = nexts-few p.shape.around p.tile_cols in let side = v.cols in
    seam p.shape.around p.cols p.tile_cols p.shape.reach b m (omega arith) (omega arith) less
    (λ two. elim v.cols_fit [
      | inl one ↦ absurd (omega arith)
      | inr more ↦ let k = mul-le 1 p.shape.reach p.tile_cols p.shape.reach (omega arith) (omega arith) in omega arith
    ])

-- and so with rows
seam-rows : (p : Plan) (a m : ℕ) → IsPlan p → a < nexts p.shape.around p.tile_rows
    → place p.shape.around p.rows (pos (first_row p (next p.tile_rows a) + m) -ℤ pos p.shape.reach) ≡ place p.shape.around p.rows (pos (first_row p (a + 1) + m) -ℤ pos p.shape.reach)
seam-rows p a m v less =
    let few = nexts-few p.shape.around p.tile_rows in let side = v.rows in
    seam p.shape.around p.rows p.tile_rows p.shape.reach a m (omega arith) (omega arith) less
    (λ two. elim v.rows_fit [
      | inl one ↦ absurd (omega arith)
      | inr more ↦ let k = mul-le 1 p.shape.reach p.tile_rows p.shape.reach (omega arith) (omega arith) in omega arith
    ])

-- the cells of an edge's rectangle are in its sender's block, and land in its receiver's where the grid is read at the
-- same places
pub record Brings (p : Plan) (x : TileEdge) : Type 0 where
  pub from : x.from < tiles p
  pub to : x.to < tiles p
  pub leave_rows : leave_row p x + x.rows ≤ tall p x.from + 2 * p.shape.reach
  pub leave_cols : leave_col p x + x.cols ≤ wide p x.from + 2 * p.shape.reach
  pub land_rows : land_row p x + x.rows ≤ tall p x.to + 2 * p.shape.reach
  pub land_cols : land_col p x + x.cols ≤ wide p x.to + 2 * p.shape.reach
  pub rows : (g : Plane) (rule : Rule) (k : ℕ) → Suit p g rule → place rule.around g.rows (down p x.to (land_row p x + k)) ≡ place rule.around g.rows (down p x.from (leave_row p x + k))
  pub cols : (g : Plane) (rule : Rule) (j : ℕ) → Suit p g rule → place rule.around g.cols (right p x.to (land_col p x + j)) ≡ place rule.around g.cols (right p x.from (leave_col p x + j))

-- the last columns of a tile, to its right neighbour
right-brings : (p : Plan) (a b : ℕ) → IsPlan p → a < p.tile_rows → b < nexts p.shape.around p.tile_cols → Brings p (rightward p a b (next p.tile_cols b))
right-brings p a b v l m =
    let c = next p.tile_cols b in let h = p.shape.reach in
    let few = nexts-few p.shape.around p.tile_cols in
    let here : b < p.tile_cols = omega arith in
    let there = next-inside p.tile_cols b here in
    let some = cols-some p b v in
    let t = top-of p a b here in let t' = top-of p a c there in
    let n = tall-of p a b here in let n' = tall-of p a c there in
    let f = left-of p a b here in let f' = left-of p a c there in
    let w = wide-of p a b here in let w' = wide-of p a c there in
    record {
      from = number-inside p a b l here;
      to = number-inside p a c l there;
      leave_rows = omega arith;
      leave_cols = omega arith;
      land_rows = omega arith;
      land_cols = omega arith;
      rows = λ g rule k s. ap (λ q. place rule.around g.rows (pos (q + (h + k)) -ℤ pos h)) (t' ∙ sym t);
      cols = λ g rule j s.
          let one : left p (number p a c) + (0 + j) ≡ first_col p c + j = omega arith in
          let two : left p (number p a b) + (wide p (number p a b) + j) ≡ first_col p (b + 1) + j = omega arith in
          by-cols p g rule (right p (number p a c) (0 + j)) s
          ∙ ap (λ q. place p.shape.around p.cols (pos q -ℤ pos h)) one
          ∙ seam-cols p b j v m
          ∙ ap (λ q. place p.shape.around p.cols (pos q -ℤ pos h)) (sym two)
          ∙ sym (by-cols p g rule (right p (number p a b) (wide p (number p a b) + j)) s);
    }

-- the neighbour's first ones, back
left-brings : (p : Plan) (a b : ℕ) → IsPlan p → a < p.tile_rows → b < nexts p.shape.around p.tile_cols → Brings p (leftward p a b (next p.tile_cols b))
left-brings p a b v l m =
    let c = next p.tile_cols b in let h = p.shape.reach in
    let few = nexts-few p.shape.around p.tile_cols in
    let here : b < p.tile_cols = omega arith in
    let there = next-inside p.tile_cols b here in
    let some = cols-some p b v in let enough = cols-enough p c v (has-two p.shape.around p.tile_cols b m) in
    let t = top-of p a b here in let t' = top-of p a c there in
    let n = tall-of p a b here in let n' = tall-of p a c there in
    let f = left-of p a b here in let f' = left-of p a c there in
    let w = wide-of p a b here in let w' = wide-of p a c there in
    record {
      from = number-inside p a c l there;
      to = number-inside p a b l here;
      leave_rows = omega arith;
      leave_cols = omega arith;
      land_rows = omega arith;
      land_cols = omega arith;
      rows = λ g rule k s. ap (λ q. place rule.around g.rows (pos (q + (h + k)) -ℤ pos h)) (t ∙ sym t');
      cols = λ g rule j s.
          let one : left p (number p a b) + (h + wide p (number p a b) + j) ≡ first_col p (b + 1) + (h + j) = omega arith in
          let two : left p (number p a c) + (h + j) ≡ first_col p c + (h + j) = omega arith in
          by-cols p g rule (right p (number p a b) (h + wide p (number p a b) + j)) s
          ∙ ap (λ q. place p.shape.around p.cols (pos q -ℤ pos h)) one
          ∙ sym (seam-cols p b (h + j) v m)
          ∙ ap (λ q. place p.shape.around p.cols (pos q -ℤ pos h)) (sym two)
          ∙ sym (by-cols p g rule (right p (number p a c) (h + j)) s);
    }

-- the last rows of a tile, to its lower neighbour
down-brings : (p : Plan) (a b : ℕ) → IsPlan p → a < nexts p.shape.around p.tile_rows → b < p.tile_cols → Brings p (downward p a b (next p.tile_rows a))
down-brings p a b v l m =
    let d = next p.tile_rows a in let h = p.shape.reach in
    let few = nexts-few p.shape.around p.tile_rows in
    let here : a < p.tile_rows = omega arith in
    let there = next-inside p.tile_rows a here in
    let some = rows-some p a v in
    let t = top-of p a b m in let t' = top-of p d b m in
    let n = tall-of p a b m in let n' = tall-of p d b m in
    let f = left-of p a b m in let f' = left-of p d b m in
    let w = wide-of p a b m in let w' = wide-of p d b m in
    record {
      from = number-inside p a b here m;
      to = number-inside p d b there m;
      leave_rows = omega arith;
      leave_cols = omega arith;
      land_rows = omega arith;
      land_cols = omega arith;
      rows = λ g rule k s.
          let one : top p (number p d b) + (0 + k) ≡ first_row p d + k = omega arith in
          let two : top p (number p a b) + (tall p (number p a b) + k) ≡ first_row p (a + 1) + k = omega arith in
          by-rows p g rule (down p (number p d b) (0 + k)) s
          ∙ ap (λ q. place p.shape.around p.rows (pos q -ℤ pos h)) one
          ∙ seam-rows p a k v l
          ∙ ap (λ q. place p.shape.around p.rows (pos q -ℤ pos h)) (sym two)
          ∙ sym (by-rows p g rule (down p (number p a b) (tall p (number p a b) + k)) s);
      cols = λ g rule j s. ap (λ q. place rule.around g.cols (pos (q + (0 + j)) -ℤ pos h)) (f' ∙ sym f);
    }

-- the neighbour's first ones, back
up-brings : (p : Plan) (a b : ℕ) → IsPlan p → a < nexts p.shape.around p.tile_rows → b < p.tile_cols → Brings p (upward p a b (next p.tile_rows a))
up-brings p a b v l m =
    let d = next p.tile_rows a in let h = p.shape.reach in
    let few = nexts-few p.shape.around p.tile_rows in
    let here : a < p.tile_rows = omega arith in
    let there = next-inside p.tile_rows a here in
    let some = rows-some p a v in let enough = rows-enough p d v (has-two p.shape.around p.tile_rows a l) in
    let t = top-of p a b m in let t' = top-of p d b m in
    let n = tall-of p a b m in let n' = tall-of p d b m in
    let f = left-of p a b m in let f' = left-of p d b m in
    let w = wide-of p a b m in let w' = wide-of p d b m in
    record {
      from = number-inside p d b there m;
      to = number-inside p a b here m;
      leave_rows = omega arith;
      leave_cols = omega arith;
      land_rows = omega arith;
      land_cols = omega arith;
      rows = λ g rule k s.
          let one : top p (number p a b) + (h + tall p (number p a b) + k) ≡ first_row p (a + 1) + (h + k) = omega arith in
          let two : top p (number p d b) + (h + k) ≡ first_row p d + (h + k) = omega arith in
          by-rows p g rule (down p (number p a b) (h + tall p (number p a b) + k)) s
          ∙ ap (λ q. place p.shape.around p.rows (pos q -ℤ pos h)) one
          ∙ sym (seam-rows p a (h + k) v l)
          ∙ ap (λ q. place p.shape.around p.rows (pos q -ℤ pos h)) (sym two)
          ∙ sym (by-rows p g rule (down p (number p d b) (h + k)) s);
      cols = λ g rule j s. ap (λ q. place rule.around g.cols (pos (q + (0 + j)) -ℤ pos h)) (f ∙ sym f');
    }

-- each edge of the first phase, and of the second
pub first-brings : (p : Plan) (x : TileEdge) → IsPlan p → IsFirst p x → Brings p x
first-brings p x v s = elim s.is [
  | inl e ↦ subst (Brings p) (sym e) (right-brings p s.a s.b v s.row s.place)
  | inr e ↦ subst (Brings p) (sym e) (left-brings p s.a s.b v s.row s.place)
]

pub second-brings : (p : Plan) (x : TileEdge) → IsPlan p → IsSecond p x → Brings p x
second-brings p x v s = elim s.is [
  | inl e ↦ subst (Brings p) (sym e) (down-brings p s.a s.b v s.row s.place)
  | inr e ↦ subst (Brings p) (sym e) (up-brings p s.a s.b v s.row s.place)
]

-- each edge of a plan does
pub edge-brings : (p : Plan) (e : ℕ) (x : TileEdge) → IsPlan p → slice_get (edges p) e ≡ Some x → Brings p x
edge-brings p e x v at = below-or e (length (first_phase p))
    (λ l. first-brings p x v (first-is p e x l at))
    (λ h. second-brings p x v (second-is p e x h (slice_get_within (edges p) e x at) at))

-- ---- what is ready to be sent

-- the cells of an edge of the first phase are own cells
first-ready : (p : Plan) (g : Plane) (rule : Rule) (blocks : List Part) (x : TileEdge) → IsPlan p → OwnRead p g rule blocks → IsFirst p x → IsReady p g rule blocks x
first-ready p g rule blocks x v own s = elim s.is [
  | inl e ↦ subst (IsReady p g rule blocks) (sym e)
      (λ k j low less.
      let h = p.shape.reach in
      let few = nexts-few p.shape.around p.tile_cols in let place = s.place in
      let here : s.b < p.tile_cols = omega arith in
      let n = tall-of p s.a s.b here in let w = wide-of p s.a s.b here in
      let enough = cols-enough p s.b v (has-two p.shape.around p.tile_cols s.b place) in
      let t = number p s.a s.b in
      let col : h + (wide p t + j - h) ≡ wide p t + j = omega arith in
      subst (λ q. Reads p g rule blocks t (h + k) q) col (own t k (wide p t + j - h) (number-inside p s.a s.b s.row here) (omega arith) (omega arith)))
  | inr e ↦ subst (IsReady p g rule blocks) (sym e)
      (λ k j low less.
      let few = nexts-few p.shape.around p.tile_cols in let place = s.place in
      let here : s.b < p.tile_cols = omega arith in
      let c = next p.tile_cols s.b in
      let there = next-inside p.tile_cols s.b here in
      let n = tall-of p s.a c there in let w = wide-of p s.a c there in
      let enough = cols-enough p c v (has-two p.shape.around p.tile_cols s.b place) in
      own (number p s.a c) k j (number-inside p s.a c s.row there) (omega arith) (omega arith))
]

-- those of the second are own rows with the halo's columns
second-ready : (p : Plan) (g : Plane) (rule : Rule) (blocks : List Part) (x : TileEdge) → IsPlan p → SidesRead p g rule blocks → IsSecond p x → IsReady p g rule blocks x
second-ready p g rule blocks x v sides s = elim s.is [
  | inl e ↦ subst (IsReady p g rule blocks) (sym e)
      (λ k j low less.
      let h = p.shape.reach in
      let few = nexts-few p.shape.around p.tile_rows in let row = s.row in
      let here : s.a < p.tile_rows = omega arith in
      let n = tall-of p s.a s.b s.place in let w = wide-of p s.a s.b s.place in
      let enough = rows-enough p s.a v (has-two p.shape.around p.tile_rows s.a row) in
      let t = number p s.a s.b in
      let y : h + (tall p t + k - h) ≡ tall p t + k = omega arith in
      let x' : j ≡ 0 + j = omega arith in
      subst (λ q. Reads p g rule blocks t q (0 + j)) y (subst (Reads p g rule blocks t (h + (tall p t + k - h))) x'
      (sides t (tall p t + k - h) j (number-inside p s.a s.b here s.place) (omega arith) (omega arith))))
  | inr e ↦ subst (IsReady p g rule blocks) (sym e)
      (λ k j low less.
      let few = nexts-few p.shape.around p.tile_rows in let row = s.row in
      let here : s.a < p.tile_rows = omega arith in
      let d = next p.tile_rows s.a in
      let there = next-inside p.tile_rows s.a here in
      let n = tall-of p d s.b s.place in let w = wide-of p d s.b s.place in
      let enough = rows-enough p d v (has-two p.shape.around p.tile_rows s.a row) in
      let x' : j ≡ 0 + j = omega arith in
      subst (Reads p g rule blocks (number p d s.b) (p.shape.reach + k)) x' (sides (number p d s.b) k j (number-inside p d s.b there s.place) (omega arith) (omega arith)))
]

-- the own cells are all that the first phase sends
pub all-first : (p : Plan) (g : Plane) (rule : Rule) (blocks : List Part) (end : ℕ) → IsPlan p → OwnRead p g rule blocks → end ≤ length (first_phase p) → AreReady p g rule blocks 0 end
all-first p g rule blocks end v own few e x low less at = first-ready p g rule blocks x v own (first-is p e x (omega arith) at)

-- and own rows with the halo's columns all that the second sends
pub all-second : (p : Plan) (g : Plane) (rule : Rule) (blocks : List Part) (from end : ℕ) → IsPlan p → SidesRead p g rule blocks → length (first_phase p) ≤ from → end ≤ length (edges p)
    → AreReady p g rule blocks from end
all-second p g rule blocks from end v sides many few e x low less at = second-ready p g rule blocks x v sides (second-is p e x (omega arith) (omega arith) at)
