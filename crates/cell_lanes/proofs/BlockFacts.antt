-- The own cells of a part after a step: the window round a row of a part has the grid's reading, so its sums are those of
-- the grid's own window.
use Rattle.std.proofs.Common.{◌≡◌, ◌∙◌, refl, sym, ap, subst, ℕ, ◌*ℤ◌, Option, Some, None, int_div, ◌+◌, ◌-◌, ◌*◌, ◌<◌, ◌≤◌, ℤ, pos, ◌-ℤ◌, List, ◌++◌, length, take, drop, length-append, length-take-le, get_or, arith, inl, inr}
use Rattle.std.specs.Prelude.{◌⊎◌, nat_lt, true}
use Rattle.std.specs.List.{All}
use Rattle.std.proofs.lemmas.Bool.{cases_eq, lt-ltb}
use Rattle.std.proofs.lemmas.Int.{ints}
use Rattle.std.proofs.lemmas.Nat.{mul-le, mul-add-lt}
use Rattle.std.proofs.Math.Nat.{mod-eq_of_lt}
use Rattle.std.specs.Simd.Lanes.{chunk}
use Rattle.std.proofs.lemmas.Simd.{get_or-chunk}
use Rattle.std.proofs.lemmas.List.{get_or_append_left, get_or-take, get_or-append_right, get_or-drop, length-drop}
use Rattle.stencil_def.specs.Limits.{IsValue}
use Rattle.stencil_def.specs.Plane.{Plane, cell}
use Rattle.stencil_def.specs.Square.{Square, side, weight}
use Rattle.stencil_def.specs.declared.rule.Around.{Around}
use Rattle.stencil_def.specs.declared.rule.Around.TheVariants.{Fixed, Wrap}
use Rattle.stencil_def.specs.declared.rule.Rule.{Rule}
use Rattle.stencil_def.specs.Step.{cell_or, place, read, sum_below, weighted, window_sum, clamped, new_cell, next_plane}
use Rattle.stencil_def.proofs.StepFacts.{next-cells}
use Rattle.cell_lanes.specs.Window.{met, row_sum_at, sum_at}
use Rattle.cell_lanes.specs.Padding.{end_or, or_edge, with_ends}
use Rattle.cell_lanes.specs.Block.{Part, Holds, HoldsMiddle, HoldsOwnBelow, HoldsOwnRow, HoldsRow, IsInside, IsPart, SameRow, at, part_of, width}
use Rattle.cell_lanes.proofs.WindowFacts.{below-or}
use Rattle.cell_lanes.proofs.PaddedFacts.{all-put, sum-same}
use Rattle.cell_lanes.proofs.RowFacts.{end-same, part-at}

-- the value that a weight meets in the window round a row of the part
window-met : (g : Plane) (rule : Rule) (top left : ℕ) (b : Part) (row col a j : ℕ) → Holds g rule top left b → row < b.rows → col < b.cols
    → a < 2 * b.reach + 1 → j < 2 * b.reach + 1
    → met (chunk (row * width b) ((2 * b.reach + 1) * width b) b.values) (width b) col a j
    ≡ read g rule (pos (top + row + a) -ℤ pos b.reach) (pos (left + col + j) -ℤ pos b.reach)
window-met g rule top left b row col a j holds h l p q =
    let w = width b in
    let size : a * w + (col + j) < (2 * b.reach + 1) * w = let m = mul-add-lt a w (col + j) (2 * b.reach + 1) p (omega arith) in omega (arith, m) in
    let place : row * w + (a * w + (col + j)) ≡ (row + a) * w + (col + j) = omega arith in
    let down : top + (row + a) ≡ top + row + a = omega arith in
    let right : left + (col + j) ≡ left + col + j = omega arith in
    get_or-chunk (row * w) ((2 * b.reach + 1) * w) b.values (a * w + (col + j)) (pos 0) size
    ∙ ap (λ k. get_or b.values k (pos 0)) place
    ∙ holds (row + a) (col + j) (omega arith) (omega arith)
    ∙ ap (λ n. read g rule (pos n -ℤ pos b.reach) (pos (left + (col + j)) -ℤ pos b.reach)) down
    ∙ ap (λ n. read g rule (pos (top + row + a) -ℤ pos b.reach) (pos n -ℤ pos b.reach)) right

-- the sum over that window
window-sum-is : (g : Plane) (rule : Rule) (top left : ℕ) (b : Part) (row col : ℕ) → rule.weights.reach ≡ b.reach → Holds g rule top left b → row < b.rows → col < b.cols
    → sum_at rule.weights (chunk (row * width b) ((2 * b.reach + 1) * width b) b.values) (width b) col ≡ window_sum g rule (top + row) (left + col)
window-sum-is g rule top left b row col same holds h l =
    let window = chunk (row * width b) ((2 * b.reach + 1) * width b) b.values in
    let reads : (a j : ℕ) → read g rule (pos (top + row + a) -ℤ pos b.reach) (pos (left + col + j) -ℤ pos b.reach)
    ≡ read g rule (pos (top + row + a) -ℤ pos rule.weights.reach) (pos (left + col + j) -ℤ pos rule.weights.reach) =
    λ a j. ap (λ r. read g rule (pos (top + row + a) -ℤ pos r) (pos (left + col + j) -ℤ pos r)) (sym same) in
    sum-same (side rule.weights) (λ a. row_sum_at rule.weights window (width b) col a) (λ a. sum_below (side rule.weights) (λ j. weighted g rule (top + row) (left + col) a j))
    (λ a p. sum-same (side rule.weights) (λ j. weight rule.weights a j *ℤ met window (width b) col a j) (λ j. weighted g rule (top + row) (left + col) a j)
    (λ j q. ap (λ z. weight rule.weights a j *ℤ z) (window-met g rule top left b row col a j holds h l (omega arith) (omega arith) ∙ reads a j)))

pub new-cell-at : (g : Plane) (rule : Rule) (top left : ℕ) (b : Part) (w : Square) (d : ℤ) (row col : ℕ) → w ≡ rule.weights → d ≡ rule.div → w.reach ≡ b.reach
    → Holds g rule top left b → IsInside g top left b → row < b.rows → col < b.cols
    → clamped (int_div (sum_at w (chunk (row * width b) ((2 * b.reach + 1) * width b) b.values) (width b) col) d) ≡ cell (next_plane g rule) (top + row) (left + col)
unfolding new_cell
new-cell-at g rule top left b w d row col weights div reach holds inside h l =
    let window = chunk (row * width b) ((2 * b.reach + 1) * width b) b.values in
    let rows = inside.rows_fit in let cols = inside.cols_fit in
    ap (λ v. clamped (int_div (sum_at v window (width b) col) d)) weights
    ∙ ap (λ z. clamped (int_div (sum_at rule.weights window (width b) col) z)) div
    ∙ ap (λ z. clamped (int_div z rule.div)) (window-sum-is g rule top left b row col (sym (ap (λ (v : Square). v.reach) weights) ∙ reach) holds h l)
    ∙ sym (next-cells g rule (top + row) (left + col) (omega arith) (omega arith))

-- one more own row was put at its place
pub own-next : (g : Plane) (top left rows cols reach row start end : ℕ) (next new : List ℤ) → HoldsOwnBelow g top left row (part_of rows cols reach next)
    → start ≡ (reach + row) * (cols + 2 * reach) + reach → start + cols ≤ length next → length new ≡ cols
    → ((col : ℕ) → col < cols → get_or new col (pos 0) ≡ cell g (top + row) (left + col))
    → HoldsOwnBelow g top left (row + 1) (part_of rows cols reach (take start next ++ (new ++ drop end (drop start next))))
own-next g top left rows cols reach row start end next new done place room long is r col less lt =
    let w = cols + 2 * reach in
    let rest = drop end (drop start next) in
    below-or r row
    (λ l. let m = mul-le (reach + r + 1) w (reach + row) w (omega arith) (omega arith) in
    let there : (reach + r) * w + (reach + col) < start = omega (arith, m, lt, place) in
    let size : length (take start next) ≡ start = length-take-le start next (omega arith) in
    get_or_append_left (take start next) (new ++ rest) (pos 0) ((reach + r) * w + (reach + col)) (omega (arith, size, there))
    ∙ (get_or-take start next ((reach + r) * w + (reach + col)) (pos 0) there ∙ done r col l lt))
    (λ h. let same : row ≡ r = omega arith in
    let there : start + col ≡ (reach + r) * w + (reach + col) = ap (λ n. n + col) place ∙ (ap (λ n. (reach + n) * w + reach + col) same ∙ omega arith) in
    ap (λ k. get_or (take start next ++ (new ++ rest)) k (pos 0)) (sym there)
    ∙ (part-at next new rest start col (omega arith) (omega (arith, long, lt)) ∙ (is col lt ∙ ap (λ n. cell g (top + n) (left + col)) same)))

-- a place of an own row lies among the values
pub own-room : (rows cols reach row : ℕ) (next : List ℤ) → IsPart (part_of rows cols reach next) → row < rows
    → (reach + row) * (cols + 2 * reach) + reach + cols ≤ length next
own-room rows cols reach row next s less =
    let w = cols + 2 * reach in
    let m = mul-le (reach + row + 1) w (rows + 2 * reach) w (omega arith) (omega arith) in
    let long = s.length in
    omega (arith, m)

pub length-put : {X : Type 0} (start k : ℕ) (xs new : List X) → start + k ≤ length xs → length new ≡ k → length (take start xs ++ (new ++ drop k (drop start xs))) ≡ length xs
length-put start k xs new room long =
    let one = length-append (take start xs) (new ++ drop k (drop start xs)) in
    let two = length-append new (drop k (drop start xs)) in
    let three = length-take-le start xs (omega arith) in
    let four = length-drop k (drop start xs) in
    let five = length-drop start xs in
    omega arith

-- the window, as the code cuts it
pub window-cut : (at count : ℕ) (values : List ℤ) → take (at + count - at) (drop at values) ≡ chunk at count values
window-cut at count values = let e : at + count - at ≡ count = omega arith in ap (λ n. take n (drop at values)) e

-- the part after that keeps its limits
pub limits-put : (rows cols reach start end : ℕ) (next new : List ℤ) → IsPart (part_of rows cols reach next) → All IsValue new
    → length (take start next ++ (new ++ drop end (drop start next))) ≡ length next → IsPart (part_of rows cols reach (take start next ++ (new ++ drop end (drop start next))))
limits-put rows cols reach start end next new s fine same = record {
  rows = s.rows;
  cols = s.cols;
  reach = s.reach;
  length = same ∙ s.length;
  values = all-put start end next new s.values fine;
}

-- ---- what was put

-- a place among what was put, and any other place
pub put-inside : (start k : ℕ) (xs new : List ℤ) (i : ℕ) → start + k ≤ length xs → length new ≡ k → i < k → get_or (take start xs ++ (new ++ drop k (drop start xs))) (start + i) (pos 0) ≡ get_or new i (pos 0)
put-inside start k xs new i room long less = part-at xs new (drop k (drop start xs)) start i (omega arith) (omega arith)

pub put-before : (start k : ℕ) (xs new : List ℤ) (i : ℕ) → start + k ≤ length xs → i < start → get_or (take start xs ++ (new ++ drop k (drop start xs))) i (pos 0) ≡ get_or xs i (pos 0)
put-before start k xs new i room less =
    let size = length-take-le start xs (omega arith) in
    get_or_append_left (take start xs) (new ++ drop k (drop start xs)) (pos 0) i (omega arith) ∙ get_or-take start xs i (pos 0) less

pub put-behind : (start k : ℕ) (xs new : List ℤ) (i : ℕ) → start + k ≤ length xs → length new ≡ k → start + k ≤ i → get_or (take start xs ++ (new ++ drop k (drop start xs))) i (pos 0) ≡ get_or xs i (pos 0)
put-behind start k xs new i room long more =
    let size = length-take-le start xs (omega arith) in
    let place : start + (k + (i - start - k)) ≡ i = omega arith in
    get_or-append_right (take start xs) (new ++ drop k (drop start xs)) start i (pos 0) size (omega arith)
    ∙ get_or-append_right new (drop k (drop start xs)) k (i - start) (pos 0) long (omega arith)
    ∙ get_or-drop k (drop start xs) (i - start - k) (pos 0)
    ∙ get_or-drop start xs (k + (i - start - k)) (pos 0)
    ∙ ap (λ n. get_or xs n (pos 0)) place

-- a row that was put leaves the other rows
pub row-apart : (rows cols reach y r : ℕ) (xs new : List ℤ) (start k : ℕ) → start ≡ y * (cols + 2 * reach) → k ≡ cols + 2 * reach → start + k ≤ length xs → length new ≡ k
    → (y ≡ r → ⊥) → SameRow r (part_of rows cols reach xs) (part_of rows cols reach (take start xs ++ (new ++ drop k (drop start xs))))
row-apart rows cols reach y r xs new start k place wide room long apart x less =
    let w = cols + 2 * reach in
    below-or r y
    (λ l. let m = mul-le (r + 1) w y w (omega arith) (omega arith) in put-before start k xs new (r * w + x) room (omega (arith, m)))
    (λ h. let m = mul-le (y + 1) w r w (omega arith) (omega arith) in put-behind start k xs new (r * w + x) room long (omega (arith, m)))

-- ---- the ends of a row with the reading of a grid

place-own : (around : Around) (n col : ℕ) → col < n → place around n (pos col) ≡ Some col
place-own Fixed n col less = let t : nat_lt col n ≡ true = lt-ltb col n less in rw t refl
place-own Wrap n col less = ap (λ (m : ℕ). Some m) (mod-eq_of_lt less)

-- inside the grid its cell is read
read-cell : (g : Plane) (rule : Rule) (row col : ℕ) → row < g.rows → col < g.cols → read g rule (pos row) (pos col) ≡ cell g row col
unfolding read
read-cell g rule row col h l =
    ap (λ o. cell_or g rule.edge o (place rule.around g.cols (pos col))) (place-own rule.around g.rows row h)
    ∙ ap (cell_or g rule.edge (Some row)) (place-own rule.around g.cols col l)

-- the own cells of a part that holds the grid's reading are the grid's
pub own-held : (g : Plane) (rule : Rule) (top left row : ℕ) (b : Part) → Holds g rule top left b → IsInside g top left b → row < b.rows → HoldsOwnRow g top left row b
own-held g rule top left row b holds inside less col l =
    let rows = inside.rows_fit in
    let cols = inside.cols_fit in
    let down : pos (top + (b.reach + row)) -ℤ pos b.reach ≡ pos (top + row) = omega (arith, ints) in
    let right : pos (left + (b.reach + col)) -ℤ pos b.reach ≡ pos (left + col) = omega (arith, ints) in
    holds (b.reach + row) (b.reach + col) (omega arith) (omega arith)
    ∙ ap (λ z. read g rule z (pos (left + (b.reach + col)) -ℤ pos b.reach)) down ∙ ap (read g rule (pos (top + row))) right
    ∙ read-cell g rule (top + row) (left + col) (omega arith) (omega arith)

by-row : (g : Plane) (rule : Rule) (x : ℕ) (o : Option ℕ) → 0 < g.cols
    → end_or rule g.cols (λ col. cell_or g rule.edge o (place rule.around g.cols (pos col))) x ≡ cell_or g rule.edge o (place rule.around g.cols (pos x -ℤ pos rule.weights.reach))
by-row g rule x (Some r) some =
    end-same rule g.cols x (λ col. cell_or g rule.edge (Some r) (place rule.around g.cols (pos col))) (λ col. cell g r col) some
    (λ col l. ap (cell_or g rule.edge (Some r)) (place-own rule.around g.cols col l))
    ∙ by-col (place rule.around g.cols (pos x -ℤ pos rule.weights.reach))
  where
    by-col : (p : Option ℕ) → or_edge rule.edge (λ col. cell g r col) p ≡ cell_or g rule.edge (Some r) p
    by-col (Some col) = refl
    by-col None = refl
by-row g rule x None some = by-col (place rule.around g.cols (pos x -ℤ pos rule.weights.reach))
  where
    by-col : (p : Option ℕ) → or_edge rule.edge (λ col. cell_or g rule.edge None (place rule.around g.cols (pos col))) p ≡ cell_or g rule.edge None p
    by-col (Some col) = refl
    by-col None = refl

pub ends-read : (g : Plane) (rule : Rule) (y : ℤ) (cols x : ℕ) (f : ℕ → ℤ) → 0 < cols → g.cols ≡ cols → ((col : ℕ) → col < cols → f col ≡ read g rule y (pos col))
    → end_or rule cols f x ≡ read g rule y (pos x -ℤ pos rule.weights.reach)
unfolding read
ends-read g rule y cols x f some same is =
    end-same rule cols x f (λ col. read g rule y (pos col)) some is
    ∙ ap (λ n. end_or rule n (λ col. read g rule y (pos col)) x) (sym same)
    ∙ by-row g rule x (place rule.around g.rows y) (omega arith)

-- the ends of the first rows were set
pub record EndsSet (rule : Rule) (rows cols from n : ℕ) (old values : List ℤ) : Type 0 where
  pub ends : (g : Plane) (top y : ℕ) → g.cols ≡ cols → from ≤ y → y < n → HoldsMiddle g rule top y (part_of rows cols rule.weights.reach old)
      → HoldsRow g rule top y (part_of rows cols rule.weights.reach values)
  pub rest : (y : ℕ) → (y < from) ⊎ (n ≤ y) → SameRow y (part_of rows cols rule.weights.reach old) (part_of rows cols rule.weights.reach values)
  pub limits : IsPart (part_of rows cols rule.weights.reach values)

pub ends-next : (rule : Rule) (rows cols from y start k : ℕ) (old values new : List ℤ) → EndsSet rule rows cols from y old values → from ≤ y
    → start ≡ y * with_ends rule cols → k ≡ with_ends rule cols → start + k ≤ length values → length new ≡ k → All IsValue new
    → ((x : ℕ) → x < with_ends rule cols → get_or new x (pos 0) ≡ end_or rule cols (λ col. get_or (take k (drop start values)) (rule.weights.reach + col) (pos 0)) x)
    → EndsSet rule rows cols from (y + 1) old (take start values ++ (new ++ drop k (drop start values)))
ends-next rule rows cols from y start k old values new s after place wide room long fine is =
    let h = rule.weights.reach in
    let b = part_of rows cols h values in
    let w = with_ends rule cols in
    record {
      ends = λ g top r same low high middle x less. elim (cases_eq y r) [
        | inl here ↦
            let own : (col : ℕ) → col < cols → get_or (take k (drop start values)) (h + col) (pos 0) ≡ read g rule (pos (top + y) -ℤ pos h) (pos col) =
            λ col l. get_or-take k (drop start values) (h + col) (pos 0) (omega arith) ∙ get_or-drop start values (h + col) (pos 0)
            ∙ ap (λ n. get_or values (n + (h + col)) (pos 0)) place ∙ s.rest y (inr (omega arith)) (h + col) (omega arith)
            ∙ subst (λ n. HoldsMiddle g rule top n (part_of rows cols h old)) (sym here) middle col l in
            let there : start + x ≡ r * w + x = ap (λ n. n + x) place ∙ ap (λ n. n * w + x) here in
            ap (λ n. get_or (take start values ++ (new ++ drop k (drop start values))) n (pos 0)) (sym there)
            ∙ put-inside start k values new x room long (omega arith)
            ∙ is x less
            ∙ ends-read g rule (pos (top + y) -ℤ pos h) cols x (λ col. get_or (take k (drop start values)) (h + col) (pos 0)) s.limits.cols.0 same own
            ∙ ap (λ n. read g rule (pos (top + n) -ℤ pos h) (pos x -ℤ pos h)) here
        | inr apart ↦ row-apart rows cols h y r values new start k place wide room long apart x less ∙ s.ends g top r same low (omega arith) middle x less
      ];
      rest = λ r out x less.
          let apart : y ≡ r → ⊥ = λ e. elim out [ inl low ↦ omega arith | inr high ↦ omega arith ] in
          let out' : (r < from) ⊎ (y ≤ r) = elim out [ inl low ↦ inl low | inr high ↦ inr (omega arith) ] in
          row-apart rows cols h y r values new start k place wide room long apart x less ∙ s.rest r out' x less;
      limits = limits-put rows cols h start k values new s.limits fine (length-put start k values new room long);
    }
