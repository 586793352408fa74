-- All places of all blocks have the grid's reading: own cells, what the edges brought, and what lies where no edge brings
-- anything. Where something else lies before a tile, it is the next one of some tile.
use Rattle.std.proofs.Common.{◌≡◌, ◌∙◌, sym, ap, subst, ℕ, ◌+◌, ◌-◌, ◌*◌, ◌/◌, ◌%◌, ◌<◌, ◌≤◌, true, false, List, length, arith, inl, inr}
use Rattle.std.specs.Prelude.{◌==◌, ◌&&◌, nat_le, nat_lt}
use Rattle.std.proofs.lemmas.Bool.{cases_Bool, cases_eq, false≢true}
use Rattle.std.proofs.lemmas.Bool.Decides.{nat_tests}
use Rattle.std.proofs.lemmas.Nat.{div-add-mod'}
use Rattle.stencil_def.specs.Plane.{Plane}
use Rattle.stencil_def.specs.declared.rule.Around.{Around}
use Rattle.stencil_def.specs.declared.rule.Around.TheVariants.{Fixed, Wrap}
use Rattle.stencil_def.specs.declared.rule.Rule.{Rule}
use Rattle.cell_lanes.specs.Block.{Part}
use Rattle.cell_lanes.proofs.WindowFacts.{below-or}
use Rattle.grid_tiles.specs.Plan.{IsPlan, Plan, number, tiles}
use Rattle.grid_tiles.specs.Edges.{downward, edges, first_phase, leftward, next, nexts, rightward, upward}
use Rattle.grid_tiles.specs.Tiles.{block_at}
use Rattle.grid_tiles.specs.Blocks.{AllRead, AreBrought, AreEndsSet, AreSidesSet, HasRead, OwnRead, Reads, SidesRead, Suit, opens_down, opens_left, opens_right, opens_up, tall, wide}
use Rattle.grid_tiles.proofs.EdgeFacts.{first-there, second-there}
use Rattle.grid_tiles.proofs.Planning.{tile-at}
use Rattle.grid_tiles.proofs.SeamFacts.{next-last, next-more, wrap-two}

-- the place whose next one is i
pub record IsNext (around : Around) (n i : ℕ) : Type 0 where
  pub before : ℕ
  pub has : before < nexts around n
  pub is : next n before ≡ i

-- a place before the last has a next one
more-next : (around : Around) (n i : ℕ) → 0 < i → i < n → i - 1 < nexts around n
more-next Fixed n i some less = omega arith
more-next Wrap n i some less = let all = wrap-two n (omega arith) in omega arith

-- where a tile does not open, it is the next one of some tile
pub next-of : (around : Around) (n i : ℕ) → i < n → ((i == 0) && nat_lt (nexts around n) n) ≡ false → IsNext around n i
next-of around n i less shut = elim (cases_eq i 0) [
  | inl first ↦
      let all : n ≤ nexts around n = below-or (nexts around n) n
      (λ few. let t : ((i == 0) && nat_lt (nexts around n) n) ≡ true = grind (arith, nat_tests) in absurd (false≢true (sym shut ∙ t)))
      (λ h. h) in
      record { before = n - 1; has = omega arith; is = next-last n (n - 1) (omega arith) ∙ sym first }
  | inr later ↦ record {
    before = i - 1;
    has = more-next around n i (omega arith) less;
    is = let e = next-more n (i - 1) (λ s. omega arith) in omega arith;
  }
]

-- a tile is the one in its row and its column
number-of : (p : Plan) (t : ℕ) → number p (t / p.tile_cols) (t % p.tile_cols) ≡ t
number-of p t = div-add-mod' t p.tile_cols

-- where it does not open behind, it has a next one
few-from : (m n : ℕ) → nat_le m n ≡ false → n < m
few-from m n shut = below-or n m (λ l. l) (λ h. let t : nat_le m n ≡ true = grind (arith, nat_tests) in absurd (false≢true (sym shut ∙ t)))

-- ---- the sides

-- the columns before a tile's own, where another tile sends them
pub came-before : (p : Plan) (g : Plane) (rule : Rule) (blocks : List Part) (end t row x : ℕ) → IsPlan p → AreBrought p g rule blocks 0 end → length (first_phase p) ≤ end → t < tiles p → opens_left p t ≡ false
    → row < tall p t → x < p.shape.reach → Reads p g rule blocks t (p.shape.reach + row) (0 + x)
came-before p g rule blocks end t row x v brought all less shut low near =
    let a = t / p.tile_cols in let b = t % p.tile_cols in
    let inside = tile-at p t v less in
    let n = next-of p.shape.around p.tile_cols b inside.1 shut in
    let edge = first-there p a n.before inside.0 n.has in
    let room = edge.inside in
    let came = brought edge.at (rightward p a n.before (next p.tile_cols n.before)) (omega arith) (omega arith) edge.right row x low near in
    subst (λ u. Reads p g rule blocks u (p.shape.reach + row) (0 + x)) (ap (number p a) n.is ∙ number-of p t) came

-- and those behind them
pub came-behind : (p : Plan) (g : Plane) (rule : Rule) (blocks : List Part) (end t row k : ℕ) → IsPlan p → AreBrought p g rule blocks 0 end → length (first_phase p) ≤ end → t < tiles p → opens_right p t ≡ false
    → row < tall p t → k < p.shape.reach → Reads p g rule blocks t (p.shape.reach + row) (p.shape.reach + wide p t + k)
came-behind p g rule blocks end t row k v brought all less shut low near =
    let a = t / p.tile_cols in let b = t % p.tile_cols in
    let inside = tile-at p t v less in
    let edge = first-there p a b inside.0 (few-from (nexts p.shape.around p.tile_cols) b shut) in
    let room = edge.inside in
    let came = brought (edge.at + 1) (leftward p a b (next p.tile_cols b)) (omega arith) (omega arith) edge.left row k low near in
    subst (λ u. Reads p g rule blocks u (p.shape.reach + row) (p.shape.reach + wide p u + k)) (number-of p t) came

-- so own rows have the reading, with the halo's columns
pub sides-read : (p : Plan) (g : Plane) (rule : Rule) (old new : List Part) → IsPlan p → Suit p g rule → OwnRead p g rule old → AreBrought p g rule old 0 (length (first_phase p))
    → ((t : ℕ) → t < tiles p → AreSidesSet p rule t (block_at old t) (block_at new t)) → SidesRead p g rule new
sides-read p g rule old new v suit own brought set t row x less low lt =
    let s = set t less in
    let held = λ (r c : ℕ) (l : r < tall p t) (m : c < wide p t). own t r c less l m in
    let h = p.shape.reach in
    below-or x h
    (λ near. elim (cases_Bool (opens_left p t)) [
      | inl o ↦ let z : 0 + x ≡ x = omega arith in subst (HasRead p g rule t (block_at new t) (h + row)) z (s.before o g suit held row x low near)
      | inr shut ↦
          let came = came-before p g rule old (length (first_phase p)) t row x v brought (omega arith) less shut low near in
          let z : 0 + x ≡ x = omega arith in
          subst (HasRead p g rule t (block_at new t) (h + row)) z (s.keeps g suit held (h + row) (0 + x) (omega arith) came)
    ])
    (λ far. below-or x (h + wide p t)
    (λ l.
    let z : h + (x - h) ≡ x = omega arith in
    subst (HasRead p g rule t (block_at new t) (h + row)) z (s.keeps g suit held (h + row) (h + (x - h)) (omega arith) (own t row (x - h) less low (omega arith))))
    (λ m.
    let k = x - h - wide p t in
    let z : h + wide p t + k ≡ x = omega arith in
    subst (HasRead p g rule t (block_at new t) (h + row)) z
    (elim (cases_Bool (opens_right p t)) [
      | inl o ↦ s.behind o g suit held row k low (omega arith)
      | inr shut ↦ s.keeps g suit held (h + row) (h + wide p t + k) (omega arith) (came-behind p g rule old (length (first_phase p)) t row k v brought (omega arith) less shut low (omega arith))
    ])))

-- ---- the rows above and below

-- the rows above, and those below
pub came-above : (p : Plan) (g : Plane) (rule : Rule) (blocks : List Part) (t k x : ℕ) → IsPlan p → AreBrought p g rule blocks (length (first_phase p)) (length (edges p)) → t < tiles p → opens_up p t ≡ false
    → k < p.shape.reach → x < wide p t + 2 * p.shape.reach → Reads p g rule blocks t (0 + k) (0 + x)
came-above p g rule blocks t k x v brought less shut near lt =
    let a = t / p.tile_cols in let b = t % p.tile_cols in
    let inside = tile-at p t v less in
    let n = next-of p.shape.around p.tile_rows a inside.0 shut in
    let edge = second-there p n.before b n.has inside.1 in
    let room = edge.inside in let low = edge.above in
    let came = brought edge.at (downward p n.before b (next p.tile_rows n.before)) low (omega arith) edge.down k x near (omega arith) in
    subst (λ u. Reads p g rule blocks u (0 + k) (0 + x)) (ap (λ q. number p q b) n.is ∙ number-of p t) came

pub came-below : (p : Plan) (g : Plane) (rule : Rule) (blocks : List Part) (t k x : ℕ) → IsPlan p → AreBrought p g rule blocks (length (first_phase p)) (length (edges p)) → t < tiles p → opens_down p t ≡ false
    → k < p.shape.reach → x < wide p t + 2 * p.shape.reach → Reads p g rule blocks t (p.shape.reach + tall p t + k) (0 + x)
came-below p g rule blocks t k x v brought less shut near lt =
    let a = t / p.tile_cols in let b = t % p.tile_cols in
    let inside = tile-at p t v less in
    let edge = second-there p a b (few-from (nexts p.shape.around p.tile_rows) a shut) inside.1 in
    let room = edge.inside in let low = edge.above in
    let came = brought (edge.at + 1) (upward p a b (next p.tile_rows a)) (omega arith) (omega arith) edge.up k x near (omega arith) in
    subst (λ u. Reads p g rule blocks u (p.shape.reach + tall p u + k) (0 + x)) (number-of p t) came

-- so all places have it
pub all-read : (p : Plan) (g : Plane) (rule : Rule) (old new : List Part) → IsPlan p → Suit p g rule → SidesRead p g rule old → AreBrought p g rule old (length (first_phase p)) (length (edges p))
    → ((t : ℕ) → t < tiles p → AreEndsSet p rule t (block_at old t) (block_at new t)) → AllRead p g rule new
all-read p g rule old new v suit sides brought set t y x less low lt =
    let s = set t less in
    let held = λ (r c : ℕ) (l : r < tall p t) (m : c < wide p t + 2 * p.shape.reach). sides t r c less l m in
    let h = p.shape.reach in
    let none : 0 + x ≡ x = omega arith in
    below-or y h
    (λ near. elim (cases_Bool (opens_up p t)) [
      | inl o ↦ let z : 0 + y ≡ y = omega arith in subst (λ q. HasRead p g rule t (block_at new t) q x) z (s.above o g suit held y x near lt)
      | inr shut ↦
          let came = came-above p g rule old t y x v brought less shut near lt in
          let z : 0 + y ≡ y = omega arith in
          subst (λ q. HasRead p g rule t (block_at new t) q x) z (subst (HasRead p g rule t (block_at new t) (0 + y)) none (s.keeps g suit held (0 + y) (0 + x) (omega arith) came))
    ])
    (λ far. below-or y (h + tall p t)
    (λ l.
    let z : h + (y - h) ≡ y = omega arith in
    subst (λ q. HasRead p g rule t (block_at new t) q x) z (s.keeps g suit held (h + (y - h)) x lt (sides t (y - h) x less (omega arith) lt)))
    (λ m.
    let k = y - h - tall p t in
    let z : h + tall p t + k ≡ y = omega arith in
    subst (λ q. HasRead p g rule t (block_at new t) q x) z
    (elim (cases_Bool (opens_down p t)) [
      | inl o ↦ s.below o g suit held k x (omega arith) lt
      | inr shut ↦ subst (HasRead p g rule t (block_at new t) (h + tall p t + k)) none
          (s.keeps g suit held (h + tall p t + k) (0 + x) (omega arith) (came-below p g rule old t k x v brought less shut (omega arith) lt))
    ])))
