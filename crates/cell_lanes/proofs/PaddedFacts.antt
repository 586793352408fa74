-- A grid with ends on all sides. The own rows are stored first. What lies in the rows before and behind them follows
-- from the own rows, which storing those leaves as they are. So all of it is there at the end, and a window of it
-- holds what the weights meet.
use Rattle.std.proofs.Common.{◌≡◌, ◌∙◌, refl, sym, ap, subst, ℕ, zero, suc, ◌+ℤ◌, ◌*ℤ◌, Option, Some, None, int_div, ◌+◌, ◌-◌, ◌*◌, ◌<◌, ◌≤◌, ℤ, pos, ◌-ℤ◌, List, ◌++◌, length, take, drop, length-take-le, get_or, set, get_or-set_same, get_or-set_other, to_z, of_z, w64, arith}
use Rattle.std.specs.List.{All}
use Rattle.std.proofs.lemmas.List.Elements.{All-set, All-append, All-take, All-drop}
use Rattle.std.proofs.lemmas.Nat.{mul-le, mul-add-lt}
use Rattle.stencil_def.specs.declared.rule.Rule.{Rule}
use Rattle.stencil_def.specs.Limits.{IsValue}
use Rattle.std.specs.Simd.Lanes.{chunk}
use Rattle.std.proofs.lemmas.Simd.{get_or-chunk}
use Rattle.stencil_def.specs.Plane.{Plane, IsPlane, cell, row_of, with_cell}
use Rattle.stencil_def.specs.Square.{side, weight}
use Rattle.stencil_def.specs.Step.{place, read, cell_or, sum_below, weighted, window_sum, clamped, new_cell}
use Rattle.cell_lanes.specs.Window.{met, row_sum_at, sum_at}
use Rattle.std.proofs.lemmas.List.{get_or_append_left, get_or-take, ext_get_or}
use Rattle.cell_lanes.specs.Padding.{or_edge, new_at, end_or, with_ends, row_value, RowsAre, IsPadded}
use Rattle.cell_lanes.proofs.LaneFacts.{back}
use Rattle.cell_lanes.proofs.WindowFacts.{below-or}
use Rattle.cell_lanes.proofs.RowFacts.{end-same, end-inside, part-at}

-- the first n places of row y have what lies there, and all other places are as they were
pub record RowSet (rule : Rule) (rows cols y n : ℕ) (old values : List ℤ) : Type 0 where
  pub done : (x : ℕ) → x < n → get_or values (y * with_ends rule cols + x) (pos 0) ≡ end_or rule rows (λ row. row_value rule cols old row x) y
  pub below : (k : ℕ) → k < y * with_ends rule cols → get_or values k (pos 0) ≡ get_or old k (pos 0)
  pub above : (k : ℕ) → y * with_ends rule cols + n ≤ k → get_or values k (pos 0) ≡ get_or old k (pos 0)
  -- each value is in range
  pub limits : All IsValue values

-- a place in another row is before row b, or behind its first n places
pub in-other-row : {P : Type 0} (a b w x n : ℕ) → (a ≡ b → ⊥) → x < w → n ≤ w → (a * w + x < b * w → P) → (b * w + n ≤ a * w + x → P) → P
in-other-row a b w x n apart less few p q =
    below-or a b
    (λ h. let m = mul-le (a + 1) w b w (omega arith) (omega arith) in p (omega (arith, m, less)))
    (λ h. let m = mul-le (b + 1) w a w (omega arith) (omega arith) in q (omega (arith, m, few)))

-- in a row that is none of the own ones, place n is set to what lies there: so the first n + 1 places have it
pub row-set-next : (rule : Rule) (rows cols y n : ℕ) (old values : List ℤ) (v : ℤ) (at : ℕ) → RowSet rule rows cols y n old values
    → n < with_ends rule cols → length old ≡ with_ends rule rows * with_ends rule cols → length values ≡ length old → 0 < rows → y < with_ends rule rows
    → ((row : ℕ) → row < rows → rule.weights.reach + row ≡ y → ⊥)
    → at ≡ y * with_ends rule cols + n
    → v ≡ end_or rule rows (λ row. row_value rule cols values row n) y → IsValue v
    → RowSet rule rows cols y (n + 1) old (set values at (to_z w64 (of_z w64 v)))
row-set-next rule rows cols y n old values v at s less whole long some row outside place e small =
    let w = with_ends rule cols in
    let new = to_z w64 (of_z w64 v) in
    let is : new ≡ v = back v (omega arith) in
    let room : at < length values = let m = mul-add-lt y w n (with_ends rule rows) row less in omega (arith, m, place, long, whole) in
    let own : (r : ℕ) → r < rows → row_value rule cols values r n ≡ row_value rule cols old r n =
    λ r h. in-other-row (rule.weights.reach + r) y w n n (outside r h) less (omega arith) (s.below ((rule.weights.reach + r) * w + n)) (s.above ((rule.weights.reach + r) * w + n)) in
    let value : new ≡ end_or rule rows (λ r. row_value rule cols old r n) y =
    is ∙ (e ∙ end-same rule rows y (λ r. row_value rule cols values r n) (λ r. row_value rule cols old r n) some own) in
    record {
      done = λ x h. below-or x n
          (λ l. get_or-set_other values at (y * w + x) new (pos 0) (omega (arith, place, l)) ∙ s.done x l)
          (λ l. let same : n ≡ x = omega arith in let there : at ≡ y * w + x = omega (arith, place, same) in
          subst (λ k. get_or (set values at new) k (pos 0) ≡ end_or rule rows (λ r. row_value rule cols old r x) y) there
          (get_or-set_same values at new (pos 0) room ∙ subst (λ m. new ≡ end_or rule rows (λ r. row_value rule cols old r m) y) same value));
      below = λ k h. get_or-set_other values at k new (pos 0) (omega (arith, place, h)) ∙ s.below k h;
      above = λ k h. get_or-set_other values at k new (pos 0) (omega (arith, place, h)) ∙ s.above k (omega (arith, h));
      limits = All-set IsValue values at new (subst IsValue (sym is) small) s.limits;
    }

-- the rows from `from` up to n have what lies there, and all other places are as they were
pub record RowsSet (rule : Rule) (rows cols from n : ℕ) (old values : List ℤ) : Type 0 where
  pub done : (y x : ℕ) → from ≤ y → y < n → x < with_ends rule cols →
      get_or values (y * with_ends rule cols + x) (pos 0) ≡ end_or rule rows (λ row. row_value rule cols old row x) y
  pub below : (k : ℕ) → k < from * with_ends rule cols → get_or values k (pos 0) ≡ get_or old k (pos 0)
  pub above : (k : ℕ) → n * with_ends rule cols ≤ k → get_or values k (pos 0) ≡ get_or old k (pos 0)
  -- each value is in range
  pub limits : All IsValue values

-- row n, of rows among which no own one is, is set as a whole: so the rows from `from` up to n + 1 are
pub rows-set-next : (rule : Rule) (rows cols from to n : ℕ) (old values next : List ℤ) → RowsSet rule rows cols from n old values
    → from ≤ n → n < to → 0 < rows
    → ((row : ℕ) → row < rows → from ≤ rule.weights.reach + row → rule.weights.reach + row < to → ⊥)
    → ((x : ℕ) → x < with_ends rule cols → get_or next (n * with_ends rule cols + x) (pos 0) ≡ end_or rule rows (λ row. row_value rule cols values row x) n)
    → ((k : ℕ) → k < n * with_ends rule cols → get_or next k (pos 0) ≡ get_or values k (pos 0))
    → ((k : ℕ) → (n + 1) * with_ends rule cols ≤ k → get_or next k (pos 0) ≡ get_or values k (pos 0))
    → All IsValue next
    → RowsSet rule rows cols from (n + 1) old next
rows-set-next rule rows cols from to n old values next s order less some outside row below above limits =
    let w = with_ends rule cols in
    let own : (x : ℕ) → x < w → (r : ℕ) → r < rows → row_value rule cols values r x ≡ row_value rule cols old r x =
    λ x lt r h. let y = rule.weights.reach + r in
    below-or y from
    (λ l. let m = mul-le (y + 1) w from w (omega arith) (omega arith) in s.below (y * w + x) (omega (arith, m, lt)))
    (λ g. below-or y to (λ t. absurd (outside r h g t)) (λ t. let m = mul-le n w y w (omega arith) (omega arith) in s.above (y * w + x) (omega (arith, m)))) in
    record {
      done = λ y x h g lt. below-or y n
          (λ l. let m = mul-le (y + 1) w n w (omega arith) (omega arith) in below (y * w + x) (omega (arith, m, lt)) ∙ s.done y x h l lt)
          (λ l. let same : n ≡ y = omega arith in
          subst (λ j. get_or next (j * w + x) (pos 0) ≡ end_or rule rows (λ r. row_value rule cols old r x) j) same
          (row x lt ∙ end-same rule rows n (λ r. row_value rule cols values r x) (λ r. row_value rule cols old r x) some (own x lt)));
      below = λ k h. let m = mul-le from w n w (omega arith) (omega arith) in below k (omega (arith, m, h)) ∙ s.below k h;
      above = λ k h. above k h ∙ s.above k (let m = mul-le n w (n + 1) w (omega arith) (omega arith) in omega (arith, m, h));
      limits = limits;
    }

-- own rows in the middle, then the rows before them, then the rows behind them
pub rows-padded : (rule : Rule) (rows cols r : ℕ) (own : ℕ → ℕ → ℤ) (a b c : List ℤ) → 0 < rows → r ≡ rule.weights.reach
    → RowsAre own rule cols a rows
    → ((y x : ℕ) → 0 ≤ y → y < r → x < with_ends rule cols → get_or b (y * with_ends rule cols + x) (pos 0) ≡ end_or rule rows (λ row. row_value rule cols a row x) y)
    → ((k : ℕ) → r * with_ends rule cols ≤ k → get_or b k (pos 0) ≡ get_or a k (pos 0))
    → ((y x : ℕ) → r + rows ≤ y → y < rows + 2 * r → x < with_ends rule cols → get_or c (y * with_ends rule cols + x) (pos 0) ≡ end_or rule rows (λ row. row_value rule cols b row x) y)
    → ((k : ℕ) → k < (r + rows) * with_ends rule cols → get_or c k (pos 0) ≡ get_or b k (pos 0))
    → IsPadded own rule rows cols c
rows-padded rule rows cols r own a b c some e middle first kept last stays y x less lt =
    let h = rule.weights.reach in
    let w = with_ends rule cols in
    let f : ℕ → ℤ = λ row. end_or rule cols (own row) x in
    let from-a : (row : ℕ) → row < rows → row_value rule cols a row x ≡ f row = λ row l. middle row x l lt in
    let from-b : (row : ℕ) → row < rows → row_value rule cols b row x ≡ f row =
    λ row l. let m = mul-le r w (h + row) w (omega arith) (omega arith) in kept ((h + row) * w + x) (omega (arith, m)) ∙ from-a row l in
    below-or y r
    (λ l. let m = mul-le (y + 1) w (r + rows) w (omega arith) (omega arith) in
    stays (y * w + x) (omega (arith, m, lt)) ∙ (first y x (omega arith) l lt ∙ end-same rule rows y (λ row. row_value rule cols a row x) f some from-a))
    (λ g. below-or y (r + rows)
    (λ l. let m = mul-le (y + 1) w (r + rows) w (omega arith) (omega arith) in
    let n = mul-le r w y w g (omega arith) in
    let place : h + (y - h) ≡ y = omega arith in
    stays (y * w + x) (omega (arith, m, lt)) ∙ (kept (y * w + x) (omega (arith, n))
    ∙ (ap (λ j. get_or a (j * w + x) (pos 0)) (sym place) ∙ (from-a (y - h) (omega arith) ∙ (sym (end-inside rule rows (y - h) f (omega arith)) ∙ ap (end_or rule rows f) place)))))
    (λ t. last y x t (omega arith) lt ∙ end-same rule rows y (λ row. row_value rule cols b row x) f some from-b))

-- one more own row, stored behind the rows before it
pub rows-next : (own : ℕ → ℕ → ℤ) (rule : Rule) (cols row start : ℕ) (values new rest : List ℤ) → RowsAre own rule cols values row
    → start ≡ (rule.weights.reach + row) * with_ends rule cols → start ≤ length values → length new ≡ with_ends rule cols
    → ((x : ℕ) → x < with_ends rule cols → get_or new x (pos 0) ≡ end_or rule cols (own row) x)
    → RowsAre own rule cols (take start values ++ (new ++ rest)) (row + 1)
rows-next own rule cols row start values new rest done e room long is r x less lt =
    let w = with_ends rule cols in
    let h = rule.weights.reach in
    below-or r row
    (λ l. let m = mul-le (h + r + 1) w (h + row) w (omega arith) (omega arith) in
    let at : (h + r) * w + x < start = omega (arith, m, lt, e) in
    let size : length (take start values) ≡ start = length-take-le start values room in
    get_or_append_left (take start values) (new ++ rest) (pos 0) ((h + r) * w + x) (omega (arith, size, at))
    ∙ (get_or-take start values ((h + r) * w + x) (pos 0) at ∙ done r x l lt))
    (λ g. let same : row ≡ r = omega arith in
    let there : start + x ≡ (h + r) * w + x = ap (λ n. n + x) e ∙ ap (λ n. (h + n) * w + x) same in
    ap (λ k. get_or (take start values ++ (new ++ rest)) k (pos 0)) (sym there)
    ∙ (part-at values new rest start x room (omega (arith, long, lt)) ∙ (is x lt ∙ ap (λ n. end_or rule cols (own n) x) same)))

pub sum-same : (n : ℕ) (f g : ℕ → ℤ) → ((k : ℕ) → k < n → f k ≡ g k) → sum_below n f ≡ sum_below n g
unfolding sum_below
sum-same zero f g e = refl
sum-same (suc n) f g e =
    let rest = sum-same n f g (λ k h. e k (omega arith)) in
    let last = e n (omega arith) in
    ap (λ z. z +ℤ f n) rest ∙ ap (λ z. sum_below n g +ℤ z) last

-- what a cell outside or inside the grid holds, by its row and then by its column
cell-or-edge : (g : Plane) (edge : ℤ) (o p : Option ℕ) → or_edge edge (λ row. or_edge edge (λ col. cell g row col) p) o ≡ cell_or g edge o p
cell-or-edge g edge (Some row) (Some col) = refl
cell-or-edge g edge (Some row) None = refl
cell-or-edge g edge None p = refl

-- what lies in row y and column x, with ends, is what the grid holds at y and x less the reach
pub read-is : (g : Plane) (rule : Rule) (y x : ℕ)
    → end_or rule g.rows (λ row. end_or rule g.cols (cell g row) x) y ≡ read g rule (pos y -ℤ pos rule.weights.reach) (pos x -ℤ pos rule.weights.reach)
unfolding read
read-is g rule y x =
    cell-or-edge g rule.edge (place rule.around g.rows (pos y -ℤ pos rule.weights.reach)) (place rule.around g.cols (pos x -ℤ pos rule.weights.reach))

-- the value that a weight meets in the window round a row
window-met : (g : Plane) (rule : Rule) (row col a b : ℕ) (values : List ℤ) → IsPadded (cell g) rule g.rows g.cols values
    → length values ≡ with_ends rule g.rows * with_ends rule g.cols → row < g.rows → col < g.cols
    → a < 2 * rule.weights.reach + 1 → b < 2 * rule.weights.reach + 1
    → met (chunk (row * with_ends rule g.cols) ((2 * rule.weights.reach + 1) * with_ends rule g.cols) values) (with_ends rule g.cols) col a b
    ≡ read g rule (pos (row + a) -ℤ pos rule.weights.reach) (pos (col + b) -ℤ pos rule.weights.reach)
window-met g rule row col a b values padded long h l p q =
    let w = with_ends rule g.cols in
    let size : a * w + (col + b) < (2 * rule.weights.reach + 1) * w = let m = mul-add-lt a w (col + b) (2 * rule.weights.reach + 1) p (omega arith) in omega (arith, m) in
    let place : row * w + (a * w + (col + b)) ≡ (row + a) * w + (col + b) = omega arith in
    get_or-chunk (row * w) ((2 * rule.weights.reach + 1) * w) values (a * w + (col + b)) (pos 0) size
    ∙ (ap (λ k. get_or values k (pos 0)) place ∙ (padded (row + a) (col + b) (omega arith) (omega arith) ∙ read-is g rule (row + a) (col + b)))

-- the new value that the window round a row gives in a column is the new value of the cell there
pub new-cell-is : (g : Plane) (rule : Rule) (row col : ℕ) (values : List ℤ) → IsPadded (cell g) rule g.rows g.cols values
    → length values ≡ with_ends rule g.rows * with_ends rule g.cols → row < g.rows → col < g.cols
    → new_at rule (chunk (row * with_ends rule g.cols) ((2 * rule.weights.reach + 1) * with_ends rule g.cols) values) (with_ends rule g.cols) col ≡ new_cell g rule row col
unfolding new_cell
new-cell-is g rule row col values padded long h l =
    let window = chunk (row * with_ends rule g.cols) ((2 * rule.weights.reach + 1) * with_ends rule g.cols) values in
    let sum : sum_at rule.weights window (with_ends rule g.cols) col ≡ window_sum g rule row col =
    sum-same (side rule.weights) (λ a. row_sum_at rule.weights window (with_ends rule g.cols) col a) (λ a. sum_below (side rule.weights) (λ b. weighted g rule row col a b))
    (λ a p. sum-same (side rule.weights) (λ b. weight rule.weights a b *ℤ met window (with_ends rule g.cols) col a b) (λ b. weighted g rule row col a b)
    (λ b q. ap (λ z. weight rule.weights a b *ℤ z) (window-met g rule row col a b values padded long h l p q))) in
    ap (λ z. clamped (int_div z rule.div)) sum

-- values in range, where a part of them was put anew
pub all-put : (start n : ℕ) (values new : List ℤ) → All IsValue values → All IsValue new → All IsValue (take start values ++ (new ++ drop n (drop start values)))
all-put start n values new p q =
    All-append IsValue (take start values) (new ++ drop n (drop start values)) (All-take IsValue start values p)
    (All-append IsValue new (drop n (drop start values)) q (All-drop IsValue n (drop start values) (All-drop IsValue start values p)))

-- a row of the next grid, from the window round the row
pub next-row-is : (g : Plane) (rule : Rule) (rows cols row x width : ℕ) (values window new : List ℤ) → g.rows ≡ rows → g.cols ≡ cols → 0 < cols
    → IsPadded (cell g) rule rows cols values → length values ≡ with_ends rule rows * with_ends rule cols → row < rows
    → window ≡ chunk (row * with_ends rule cols) ((2 * rule.weights.reach + 1) * with_ends rule cols) values
    → get_or new x (pos 0) ≡ end_or rule cols (λ col. new_at rule window (with_ends rule cols) col) x
    → get_or new x (pos 0) ≡ end_or rule cols (new_cell g rule row) x
next-row-is g rule rows cols row x width values window new same-rows same-cols some padded long h is made =
    let whole : IsPadded (cell g) rule g.rows g.cols values = subst (λ n. IsPadded (cell g) rule g.rows n values) (sym same-cols) (subst (λ n. IsPadded (cell g) rule n cols values) (sym same-rows) padded) in
    let size : length values ≡ with_ends rule g.rows * with_ends rule g.cols = subst (λ n. length values ≡ with_ends rule g.rows * with_ends rule n) (sym same-cols) (subst (λ n. length values ≡ with_ends rule n * with_ends rule cols) (sym same-rows) long) in
    let there : window ≡ chunk (row * with_ends rule g.cols) ((2 * rule.weights.reach + 1) * with_ends rule g.cols) values =
    subst (λ n. window ≡ chunk (row * with_ends rule n) ((2 * rule.weights.reach + 1) * with_ends rule n) values) (sym same-cols) is in
    let cell-is : (col : ℕ) → col < cols → new_at rule window (with_ends rule cols) col ≡ new_cell g rule row col =
    λ col l. ap (λ n. new_at rule window (with_ends rule n) col) (sym same-cols)
    ∙ (ap (λ xs. new_at rule xs (with_ends rule g.cols) col) there ∙ new-cell-is g rule row col values whole size (omega (arith, h, same-rows)) (omega (arith, l, same-cols))) in
    made ∙ end-same rule cols x (λ col. new_at rule window (with_ends rule cols) col) (new_cell g rule row) some cell-is

-- where a row starts, as the code computes it
pub start-is : (rule : Rule) (row r n cols : ℕ) (at : ℕ) → at ≡ (r + row) * (n + 2 * r) → r ≡ rule.weights.reach → n ≡ cols
    → at ≡ (rule.weights.reach + row) * with_ends rule cols
start-is rule row r n cols at e f g = e ∙ (ap (λ k. (k + row) * (n + 2 * k)) f ∙ ap (λ k. (rule.weights.reach + row) * (k + 2 * rule.weights.reach)) g)

-- an own row starts within the padded grid
pub start-room : (rule : Rule) (rows cols row at size : ℕ) → at ≡ (rule.weights.reach + row) * with_ends rule cols → row < rows
    → size ≡ with_ends rule rows * with_ends rule cols → at ≤ size
start-room rule rows cols row at size e h long =
    let m = mul-le (rule.weights.reach + row) (with_ends rule cols) (with_ends rule rows) (with_ends rule cols) (omega arith) (omega arith) in omega (arith, m, e, long)

-- a copied row of the grid
pub copied-row-is : (g : Plane) (rule : Rule) (row n x : ℕ) (cells new : List ℤ) → n ≡ g.cols → cells ≡ row_of g row → 0 < g.cols
    → ((k : ℕ) → k < with_ends rule n → get_or new k (pos 0) ≡ end_or rule n (λ col. get_or cells col (pos 0)) k)
    → x < with_ends rule g.cols → get_or new x (pos 0) ≡ end_or rule g.cols (cell g row) x
copied-row-is g rule row n x cells new e is some each less =
    let here : get_or new x (pos 0) ≡ end_or rule g.cols (λ col. get_or cells col (pos 0)) x =
    subst (λ m. get_or new x (pos 0) ≡ end_or rule m (λ col. get_or cells col (pos 0)) x) e (each x (omega (arith, e, less))) in
    here ∙ end-same rule g.cols x (λ col. get_or cells col (pos 0)) (cell g row) some
    (λ col l. ap (λ xs. get_or xs col (pos 0)) is ∙ get_or-chunk (row * g.cols) g.cols g.values col (pos 0) l)

-- the window round a row, as the code cuts it
pub window-is : (rule : Rule) (row r cols at count end : ℕ) (values : List ℤ) → r ≡ rule.weights.reach → at ≡ row * (cols + 2 * r) → count ≡ (2 * r + 1) * (cols + 2 * r)
    → end ≡ at + count
    → take (end - at) (drop at values) ≡ chunk (row * with_ends rule cols) ((2 * rule.weights.reach + 1) * with_ends rule cols) values
window-is rule row r cols at count end values e f g h =
    let start : at ≡ row * with_ends rule cols = f ∙ ap (λ k. row * (cols + 2 * k)) e in
    let size : end - at ≡ (2 * rule.weights.reach + 1) * with_ends rule cols =
    let all : count ≡ (2 * rule.weights.reach + 1) * with_ends rule cols = g ∙ ap (λ k. (2 * k + 1) * (cols + 2 * k)) e in omega (arith, all, h) in
    λ i. take (size i) (drop (start i) values)

-- the first n cells of a row of the grid are these values, and the rows before it are as they were
pub record RowTaken (old grid : Plane) (row n : ℕ) (cells : List ℤ) : Type 0 where
  -- the size is the old one
  pub rows : grid.rows ≡ old.rows
  pub cols : grid.cols ≡ old.cols
  -- the grid keeps the limits
  pub plane : IsPlane grid
  pub done : (k : ℕ) → k < n → get_or grid.values (row * old.cols + k) (pos 0) ≡ get_or cells k (pos 0)
  pub below : (k : ℕ) → k < row * old.cols → get_or grid.values k (pos 0) ≡ get_or old.values k (pos 0)

-- a cell of the grid's own stands behind the reach
pub own-cell : (g : Plane) (rule : Rule) (rows cols row col : ℕ) (values : List ℤ) → IsPadded (cell g) rule rows cols values → row < rows → col < cols → g.cols ≡ cols
    → get_or values ((rule.weights.reach + row) * with_ends rule cols + (rule.weights.reach + col)) (pos 0) ≡ get_or g.values (row * cols + col) (pos 0)
own-cell g rule rows cols row col values padded h l e =
    let r = rule.weights.reach in
    padded (r + row) (r + col) (omega arith) (omega arith)
    ∙ (end-inside rule rows row (λ k. end_or rule cols (cell g k) (r + col)) h ∙ (end-inside rule cols col (cell g row) l ∙ ap (λ k. get_or g.values (row * k + col) (pos 0)) e))

-- the first n rows of the grid are those of g
abbrev pub TakenBelow : Plane → Plane → ℕ → Type 0
TakenBelow g grid n = (k : ℕ) → k < n * g.cols → get_or grid.values k (pos 0) ≡ get_or g.values k (pos 0)

-- with an own row of the padded grid copied to its place, one more row of the grid is that of g
pub taken-next : (g : Plane) (rule : Rule) (rows cols row start : ℕ) (values : List ℤ) (grid new : Plane) → g.cols ≡ cols → grid.cols ≡ cols
    → IsPadded (cell g) rule rows cols values → row < rows
    → start ≡ (rule.weights.reach + row) * with_ends rule cols + rule.weights.reach
    → TakenBelow g grid row
    → ((col : ℕ) → col < grid.cols → get_or new.values (row * grid.cols + col) (pos 0) ≡ get_or (chunk start cols values) col (pos 0))
    → ((k : ℕ) → k < row * grid.cols → get_or new.values k (pos 0) ≡ get_or grid.values k (pos 0))
    → TakenBelow g new (row + 1)
taken-next g rule rows cols row start values grid new e f padded h place done each below k less =
    let w = grid.cols in
    let same : g.cols ≡ w = e ∙ sym f in
    let less' : k < (row + 1) * w = subst (λ n. k < (row + 1) * n) same less in
    below-or k (row * w)
    (λ l. below k l ∙ done k (subst (λ n. k < row * n) (sym same) l))
    (λ l. let col = k - row * w in
    let back : row * w + col ≡ k = omega arith in
    let few : col < w = omega arith in
    let narrow : col < cols = subst (λ n. col < n) f few in
    let at : start + col ≡ (rule.weights.reach + row) * with_ends rule cols + (rule.weights.reach + col) = omega (arith, place) in
    let there : row * cols + col ≡ k = ap (λ n. row * n + col) (sym f) ∙ back in
    ap (λ j. get_or new.values j (pos 0)) (sym back) ∙ (each col few ∙ (get_or-chunk start cols values col (pos 0) narrow
    ∙ (ap (λ j. get_or values j (pos 0)) at ∙ (own-cell g rule rows cols row col values padded h narrow e ∙ ap (λ j. get_or g.values j (pos 0)) there)))))

-- grids of the same size with the same values are equal
pub plane-same : (g grid : Plane) → grid.rows ≡ g.rows → grid.cols ≡ g.cols → length grid.values ≡ length g.values
    → ((k : ℕ) → k < length grid.values → get_or grid.values k (pos 0) ≡ get_or g.values k (pos 0)) → grid ≡ g
plane-same g grid rows cols long each =
    let values = ext_get_or (pos 0) grid.values g.values long each in
    (λ i. record { rows = rows i; cols = cols i; values = values i })

-- with the next of the values in its cell, one more cell of the row is taken
pub row-taken-next : (old grid new : Plane) (row n : ℕ) (cells : List ℤ) (value : ℤ) → RowTaken old grid row n cells → row < old.rows → n < old.cols
    → value ≡ get_or cells n (pos 0) → new ≡ with_cell grid row n value → IsPlane new → RowTaken old new row (n + 1) cells
row-taken-next old grid new row n cells value t p q e is plane =
    let place = row * old.cols + n in
    let at : row * grid.cols + n ≡ place = ap (λ k. row * k + n) t.cols in
    let s = t.plane in
    let m = mul-add-lt row grid.cols n grid.rows (omega (arith, p, t.rows)) (omega (arith, q, t.cols)) in
    let room : place < length grid.values = omega (arith, m, s.length, at) in
    let values : new.values ≡ set grid.values place value = ap (λ (w : Plane). w.values) is ∙ ap (λ k. set grid.values k value) at in
    record {
      rows = ap (λ (w : Plane). w.rows) is ∙ t.rows;
      cols = ap (λ (w : Plane). w.cols) is ∙ t.cols;
      plane = plane;
      done = rw values (λ k h. below-or k n
          (λ l. get_or-set_other grid.values place (row * old.cols + k) value (pos 0) (λ same. omega (arith, same, l)) ∙ t.done k l)
          (λ l. let same : n ≡ k = omega (arith, h, l) in
          ap (λ j. get_or (set grid.values place value) (row * old.cols + j) (pos 0)) (sym same) ∙ (get_or-set_same grid.values place value (pos 0) room ∙ (e ∙ ap (λ j. get_or cells j (pos 0)) same))));
      below = rw values (λ k h. get_or-set_other grid.values place k value (pos 0) (λ same. omega (arith, same, h)) ∙ t.below k h);
    }
