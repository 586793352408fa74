-- The edges by number: of two edges for each pair of neighbours, and as many pairs in each row of tiles, edge e is of pair
-- e / 2, which is the pair (e / 2) % n of row (e / 2) / n.
use Rattle.std.proofs.Common.{◌≡◌, ◌∙◌, refl, sym, ap, ℕ, zero, suc, ◌+◌, ◌-◌, ◌*◌, ◌/◌, ◌%◌, ◌<◌, ◌≤◌, Option, Some, List, [], ◌∷◌, ◌++◌, length, arith, inl, inr, length-append}
use Rattle.std.specs.Prelude.{◌⊎◌, nat_le, slice_get}
use Rattle.std.specs.List.{flat_map, range_with_len}
use Rattle.std.proofs.lemmas.Bool.{cases_Bool, cases_lt}
use Rattle.std.proofs.lemmas.List.FromFn.{length-range_with_len}
use Rattle.std.proofs.lemmas.Nat.{div-add-mod', div_below, mod_below, mul-add-lt}
use Rattle.stencil_def.specs.declared.rule.Around.{Around}
use Rattle.stencil_def.specs.declared.rule.Around.TheVariants.{Fixed, Wrap}
use Rattle.grid_tiles.specs.declared.tile.TileEdge.{TileEdge}
use Rattle.grid_tiles.specs.Plan.{Plan}
use Rattle.grid_tiles.specs.Edges.{across, along, downward, edges, first_phase, leftward, next, nexts, rightward, second_phase, upward}

-- the number at place k of a range that begins at a
range-get : (a n k : ℕ) → k < n → slice_get (range_with_len a n) k ≡ Some (a + k)
range-get a zero k less = absurd (omega arith)
range-get a (suc n) zero less = let z : a ≡ a + 0 = omega arith in ap (λ (x : ℕ). Some x) z
range-get a (suc n) (suc k) less = range-get (a + 1) n k (omega arith) ∙ (let z : a + 1 + k ≡ a + suc k = omega arith in ap (λ (x : ℕ). Some x) z)

-- what stands at a place of the first of two lists
pub get-left : {X : Type 0} (xs ys : List X) (k : ℕ) → k < length xs → slice_get (xs ++ ys) k ≡ slice_get xs k
get-left [] ys k less = absurd (omega arith)
get-left (x ∷ xs) ys zero less = refl
get-left (x ∷ xs) ys (suc k) less = get-left xs ys k (omega arith)

-- what stands at place n of the second
pub get-right : {X : Type 0} (xs ys : List X) (k n : ℕ) → k ≡ length xs + n → slice_get (xs ++ ys) k ≡ slice_get ys n
get-right [] ys k n is = ap (slice_get ys) (let z : k ≡ n = omega arith in z)
get-right (x ∷ xs) ys zero n is = absurd (omega arith)
get-right (x ∷ xs) ys (suc k) n is = get-right xs ys k n (omega arith)

-- lists of c elements each, one after another
flat-many : {X Y : Type 0} (f : X → List Y) (c : ℕ) (xs : List X) → ((x : X) → length (f x) ≡ c) → length (flat_map f xs) ≡ length xs * c
flat-many f c [] each = omega arith
flat-many f c (x ∷ xs) each =
    let more = flat-many f c xs each in let here = each x in let sum = length-append (f x) (flat_map f xs) in
    let e : suc (length xs) * c ≡ c + length xs * c = omega arith in
    sum ∙ (λ i. here i + more i) ∙ sym e

-- element j of list k stands at place k * c + j
flat-get : {X Y : Type 0} (f : X → List Y) (c : ℕ) (xs : List X) (k j e : ℕ) (x : X) → ((z : X) → length (f z) ≡ c) → j < c → slice_get xs k ≡ Some x → e ≡ k * c + j
    → slice_get (flat_map f xs) e ≡ slice_get (f x) j
flat-get f c [] k j e x each less at is = absurd cc
flat-get f c (z ∷ zs) zero j e x each less at is =
    let here = each z in
    let same : z ≡ x = cc in
    let place : e ≡ j = omega arith in
    ap (slice_get (f z ++ flat_map f zs)) place ∙ get-left (f z) (flat_map f zs) j (omega arith) ∙ ap (λ y. slice_get (f y) j) same
flat-get f c (z ∷ zs) (suc k) j e x each less at is =
    let here = each z in
    let sum : suc k * c ≡ c + k * c = omega arith in
    get-right (f z) (flat_map f zs) e (k * c + j) (omega arith) ∙ flat-get f c zs k j (k * c + j) x each less at refl

-- ---- the edges of all pairs of neighbours, row by row

-- two for each, and n in each row
pairs-many : (f : ℕ → ℕ → List TileEdge) (m n : ℕ) → ((a b : ℕ) → length (f a b) ≡ 2) → length (flat_map (λ a. flat_map (f a) (range_with_len 0 n)) (range_with_len 0 m)) ≡ 2 * (m * n)
pairs-many f m n two =
    let row : (a : ℕ) → length (flat_map (f a) (range_with_len 0 n)) ≡ n * 2 = λ a. flat-many (f a) 2 (range_with_len 0 n) (two a) ∙ ap (λ k. k * 2) (length-range_with_len 0 n) in
    let e : m * (n * 2) ≡ 2 * (m * n) = omega arith in
    flat-many (λ a. flat_map (f a) (range_with_len 0 n)) (n * 2) (range_with_len 0 m) row ∙ ap (λ k. k * (n * 2)) (length-range_with_len 0 m) ∙ e

-- edge e by its row, its place there and which of the two it is
pairs-get : (f : ℕ → ℕ → List TileEdge) (m n e a b j : ℕ) → ((a b : ℕ) → length (f a b) ≡ 2) → a < m → b < n → j < 2 → e ≡ 2 * (a * n + b) + j
    → slice_get (flat_map (λ a. flat_map (f a) (range_with_len 0 n)) (range_with_len 0 m)) e ≡ slice_get (f a b) j
pairs-get f m n e a b j two l k less is =
    let row : (a : ℕ) → length (flat_map (f a) (range_with_len 0 n)) ≡ n * 2 = λ a. flat-many (f a) 2 (range_with_len 0 n) (two a) ∙ ap (λ k. k * 2) (length-range_with_len 0 n) in
    let inside : b * 2 + j < n * 2 = omega arith in
    let place : e ≡ a * (n * 2) + (b * 2 + j) = omega arith in
    let za : 0 + a ≡ a = omega arith in let zb : 0 + b ≡ b = omega arith in
    flat-get (λ a. flat_map (f a) (range_with_len 0 n)) (n * 2) (range_with_len 0 m) a (b * 2 + j) e a row inside (range-get 0 m a l ∙ ap (λ (x : ℕ). Some x) za) place
    ∙ flat-get (f a) 2 (range_with_len 0 n) b j (b * 2 + j) b (two a) less (range-get 0 n b k ∙ ap (λ (x : ℕ). Some x) zb) refl

-- the row and the place of edge e
pub record IsPair (m n e : ℕ) : Type 0 where
  pub some : 0 < n
  pub row : e / 2 / n < m
  pub place : e / 2 % n < n
  pub whole : e / 2 / n * n + e / 2 % n ≡ e / 2

-- each edge has them
pair-of : (m n e : ℕ) → e < 2 * (m * n) → IsPair m n e
pair-of m n e less = elim-zero n refl
  where
    elim-zero : (k : ℕ) → n ≡ k → IsPair m n e
    elim-zero zero none = absurd (let z : m * n ≡ 0 = ap (λ k. m * k) none ∙ omega arith in omega arith)
    elim-zero (suc k) is =
        let some : 0 < n = omega arith in
        record { some = some; row = div_below (e / 2) n m some (omega arith); place = mod_below (e / 2) n some; whole = div-add-mod' (e / 2) n }

-- how many edges the phases have
pub first-many : (p : Plan) → length (first_phase p) ≡ 2 * (p.tile_rows * nexts p.shape.around p.tile_cols)
first-many p = pairs-many (across p) p.tile_rows (nexts p.shape.around p.tile_cols) (λ a b. refl)

pub second-many : (p : Plan) → length (second_phase p) ≡ 2 * (nexts p.shape.around p.tile_rows * p.tile_cols)
second-many p = pairs-many (along p) (nexts p.shape.around p.tile_rows) p.tile_cols (λ a b. refl)

pub edges-many : (p : Plan) → length (edges p) ≡ length (first_phase p) + length (second_phase p)
unfolding edges
edges-many p = length-append (first_phase p) (second_phase p)

-- the pair of an edge of each phase
pub first-pair : (p : Plan) (e : ℕ) → e < length (first_phase p) → IsPair p.tile_rows (nexts p.shape.around p.tile_cols) e
first-pair p e less = let many = first-many p in pair-of p.tile_rows (nexts p.shape.around p.tile_cols) e (omega arith)

pub second-pair : (p : Plan) (e : ℕ) → e < length (second_phase p) → IsPair (nexts p.shape.around p.tile_rows) p.tile_cols e
second-pair p e less = let many = second-many p in pair-of (nexts p.shape.around p.tile_rows) p.tile_cols e (omega arith)

-- no more places have a next one than there are
pub nexts-few : (around : Around) (n : ℕ) → nexts around n ≤ n
nexts-few Fixed n = omega arith
nexts-few Wrap n = elim (cases_Bool (nat_le 2 n)) [ inl two ↦ rw two (omega arith) | inr few ↦ rw few (omega arith) ]

-- an edge of the first phase by its number
pub first-even : (p : Plan) (e a b : ℕ) → e < length (first_phase p) → a ≡ e / 2 / nexts p.shape.around p.tile_cols → b ≡ e / 2 % nexts p.shape.around p.tile_cols → e % 2 ≡ 0
    → slice_get (first_phase p) e ≡ Some (rightward p a b (next p.tile_cols b))
first-even p e a b less row place even =
    let n = nexts p.shape.around p.tile_cols in
    let h = first-pair p e less in let r = h.row in let k = h.place in let w = h.whole in
    let whole : a * n + b ≡ e / 2 = (λ i. row i * n + place i) ∙ w in
    pairs-get (across p) p.tile_rows n e a b 0 (λ a b. refl) (omega arith) (omega arith) (omega arith) (omega arith)

pub first-odd : (p : Plan) (e a b : ℕ) → e < length (first_phase p) → a ≡ e / 2 / nexts p.shape.around p.tile_cols → b ≡ e / 2 % nexts p.shape.around p.tile_cols → e % 2 ≡ 1
    → slice_get (first_phase p) e ≡ Some (leftward p a b (next p.tile_cols b))
first-odd p e a b less row place odd =
    let n = nexts p.shape.around p.tile_cols in
    let h = first-pair p e less in let r = h.row in let k = h.place in let w = h.whole in
    let whole : a * n + b ≡ e / 2 = (λ i. row i * n + place i) ∙ w in
    pairs-get (across p) p.tile_rows n e a b 1 (λ a b. refl) (omega arith) (omega arith) (omega arith) (omega arith)

-- and of the second
pub second-even : (p : Plan) (e a b : ℕ) → e < length (second_phase p) → a ≡ e / 2 / p.tile_cols → b ≡ e / 2 % p.tile_cols → e % 2 ≡ 0
    → slice_get (second_phase p) e ≡ Some (downward p a b (next p.tile_rows a))
second-even p e a b less row place even =
    let m = nexts p.shape.around p.tile_rows in
    let h = second-pair p e less in let r = h.row in let k = h.place in let w = h.whole in
    let whole : a * p.tile_cols + b ≡ e / 2 = (λ i. row i * p.tile_cols + place i) ∙ w in
    pairs-get (along p) m p.tile_cols e a b 0 (λ a b. refl) (omega arith) (omega arith) (omega arith) (omega arith)

pub second-odd : (p : Plan) (e a b : ℕ) → e < length (second_phase p) → a ≡ e / 2 / p.tile_cols → b ≡ e / 2 % p.tile_cols → e % 2 ≡ 1
    → slice_get (second_phase p) e ≡ Some (upward p a b (next p.tile_rows a))
second-odd p e a b less row place odd =
    let m = nexts p.shape.around p.tile_rows in
    let h = second-pair p e less in let r = h.row in let k = h.place in let w = h.whole in
    let whole : a * p.tile_cols + b ≡ e / 2 = (λ i. row i * p.tile_cols + place i) ∙ w in
    pairs-get (along p) m p.tile_cols e a b 1 (λ a b. refl) (omega arith) (omega arith) (omega arith) (omega arith)

-- an edge of all by its phase
pub edge-first : (p : Plan) (e : ℕ) → e < length (first_phase p) → slice_get (edges p) e ≡ slice_get (first_phase p) e
unfolding edges
edge-first p e less = get-left (first_phase p) (second_phase p) e less

pub edge-second : (p : Plan) (e n : ℕ) → e ≡ length (first_phase p) + n → slice_get (edges p) e ≡ slice_get (second_phase p) n
unfolding edges
edge-second p e n is = get-right (first_phase p) (second_phase p) e n is

-- ---- where the edges are

-- the edges between the tile in row a and column b, which has a right neighbour, and that neighbour
pub record FirstThere (p : Plan) (a b : ℕ) : Type 0 where
  pub at : ℕ
  pub inside : at + 1 < length (first_phase p)
  pub right : slice_get (edges p) at ≡ Some (rightward p a b (next p.tile_cols b))
  pub left : slice_get (edges p) (at + 1) ≡ Some (leftward p a b (next p.tile_cols b))

-- and they are there
pub first-there : (p : Plan) (a b : ℕ) → a < p.tile_rows → b < nexts p.shape.around p.tile_cols → FirstThere p a b
first-there p a b l m =
    let n = nexts p.shape.around p.tile_cols in
    let e = 2 * (a * n + b) in
    let many = first-many p in
    let place = mul-add-lt a n b p.tile_rows l m in
    let inside : e + 1 < length (first_phase p) = omega arith in
    record {
      at = e;
      inside = inside;
      right = edge-first p e (omega arith) ∙ pairs-get (across p) p.tile_rows n e a b 0 (λ a b. refl) l m (omega arith) (omega arith);
      left = edge-first p (e + 1) inside ∙ pairs-get (across p) p.tile_rows n (e + 1) a b 1 (λ a b. refl) l m (omega arith) (omega arith);
    }

-- and between it and its lower neighbour, if it has one
pub record SecondThere (p : Plan) (a b : ℕ) : Type 0 where
  pub at : ℕ
  pub above : length (first_phase p) ≤ at
  pub inside : at + 1 < length (edges p)
  pub down : slice_get (edges p) at ≡ Some (downward p a b (next p.tile_rows a))
  pub up : slice_get (edges p) (at + 1) ≡ Some (upward p a b (next p.tile_rows a))

-- and they are there
pub second-there : (p : Plan) (a b : ℕ) → a < nexts p.shape.around p.tile_rows → b < p.tile_cols → SecondThere p a b
second-there p a b l m =
    let n = nexts p.shape.around p.tile_rows in
    let f = length (first_phase p) in
    let k = 2 * (a * p.tile_cols + b) in
    let many = second-many p in let all = edges-many p in
    let place = mul-add-lt a p.tile_cols b n l m in
    record {
      at = f + k;
      above = omega arith;
      inside = omega arith;
      down = edge-second p (f + k) k refl ∙ pairs-get (along p) n p.tile_cols k a b 0 (λ a b. refl) l m (omega arith) (omega arith);
      up = edge-second p (f + k + 1) (k + 1) (omega arith) ∙ pairs-get (along p) n p.tile_cols (k + 1) a b 1 (λ a b. refl) l m (omega arith) (omega arith);
    }

-- an edge of the first phase is one of those
pub record IsFirst (p : Plan) (x : TileEdge) : Type 0 where
  pub a : ℕ
  pub b : ℕ
  pub row : a < p.tile_rows
  pub place : b < nexts p.shape.around p.tile_cols
  pub is : (x ≡ rightward p a b (next p.tile_cols b)) ⊎ (x ≡ leftward p a b (next p.tile_cols b))

pub record IsSecond (p : Plan) (x : TileEdge) : Type 0 where
  pub a : ℕ
  pub b : ℕ
  pub row : a < nexts p.shape.around p.tile_rows
  pub place : b < p.tile_cols
  pub is : (x ≡ downward p a b (next p.tile_rows a)) ⊎ (x ≡ upward p a b (next p.tile_rows a))

-- equal places have equal edges
pub same-edge : (x y : TileEdge) → ◌≡◌ {A = Option TileEdge} (Some x) (Some y) → x ≡ y
same-edge x y e = cc

-- a number is even or odd
even-odd : (e : ℕ) → (e % 2 ≡ 0) ⊎ (e % 2 ≡ 1)
even-odd e = elim (cases_lt 0 (e % 2)) [ inl more ↦ inr (omega arith) | inr none ↦ inl (omega arith) ]

-- each is
pub first-is : (p : Plan) (e : ℕ) (x : TileEdge) → e < length (first_phase p) → slice_get (edges p) e ≡ Some x → IsFirst p x
first-is p e x less at =
    let n = nexts p.shape.around p.tile_cols in
    let h = first-pair p e less in
    record {
      a = e / 2 / n;
      b = e / 2 % n;
      row = h.row;
      place = h.place;
      is = elim (even-odd e) [
        | inl even ↦ inl (same-edge x _ (sym at ∙ edge-first p e less ∙ first-even p e (e / 2 / n) (e / 2 % n) less refl refl even))
        | inr odd ↦ inr (same-edge x _ (sym at ∙ edge-first p e less ∙ first-odd p e (e / 2 / n) (e / 2 % n) less refl refl odd))
      ];
    }

-- and so in the second phase
pub second-is : (p : Plan) (e : ℕ) (x : TileEdge) → length (first_phase p) ≤ e → e < length (edges p) → slice_get (edges p) e ≡ Some x → IsSecond p x
second-is p e x above less at =
    let n = p.tile_cols in
    let all = edges-many p in
    let k = e - length (first_phase p) in
    let low : k < length (second_phase p) = omega arith in
    let h = second-pair p k low in
    record {
      a = k / 2 / n;
      b = k / 2 % n;
      row = h.row;
      place = h.place;
      is = elim (even-odd k) [
        | inl even ↦ inl (same-edge x _ (sym at ∙ edge-second p e k (omega arith) ∙ second-even p k (k / 2 / n) (k / 2 % n) low refl refl even))
        | inr odd ↦ inr (same-edge x _ (sym at ∙ edge-second p e k (omega arith) ∙ second-odd p k (k / 2 / n) (k / 2 % n) low refl refl odd))
      ];
    }
