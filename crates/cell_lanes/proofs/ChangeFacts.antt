-- The greatest of some numbers, by how many there are: one more of them makes it the greater of what it was and that
-- number, so a loop keeps it, and by induction it is a bound that one of them meets. That of two parts, one behind the
-- other, is the greater of both.
use Rattle.std.proofs.Common.{◌≡◌, ◌∙◌, refl, sym, ap, subst, ℕ, zero, suc, ◌+◌, ◌-◌, ◌*◌, ◌<◌, ◌≤◌, max, ℤ, pos, ◌-ℤ◌, ◌<ℤ◌, cond, unsigned_abs, List, length, take, drop, get_or, to_z, of_z, w64, add-one, arith}
use Rattle.std.specs.List.{All}
use Rattle.std.specs.declared.cmp.Ordering.{Ordering}
use Rattle.std.specs.declared.cmp.Ordering.TheVariants.{Less, Equal, Greater}
use Rattle.std.specs.Ordering.{int_cmp, is_lt, ord_max, MatchOrdering}
use Rattle.std.specs.Cmp.{int_ranks}
use Rattle.std.proofs.lemmas.Int.{ints}
use Rattle.stencil_def.specs.Limits.{IsValue}
use Rattle.std.proofs.lemmas.Simd.{get_or-chunk}
use Rattle.stencil_def.specs.Plane.{Plane, cell}
use Rattle.stencil_def.specs.declared.rule.Rule.{Rule}
use Rattle.stencil_def.specs.Step.{new_cell, next_plane}
use Rattle.stencil_def.proofs.StepFacts.{next-cells}
use Rattle.cell_lanes.specs.Padding.{IsPadded, RowsAre}
use Rattle.cell_lanes.specs.Block.{HoldsOwnRow, IsPart, at, part_of}
use Rattle.cell_lanes.specs.Change.{IsChange, change_within, difference, greatest_below, list_change, row_change}
use Rattle.cell_lanes.proofs.BlockFacts.{own-room}
use Rattle.cell_lanes.proofs.LaneFacts.{back}
use Rattle.cell_lanes.proofs.PaddedFacts.{own-cell}
use Rattle.cell_lanes.proofs.RowFacts.{end-inside, part-length}
use Rattle.cell_lanes.proofs.WindowFacts.{below-or, value-at}

pub greatest-none : (f : ℕ → ℕ) → greatest_below 0 f ≡ 0
unfolding greatest_below
greatest-none f = refl

pub greatest-more : (n : ℕ) (f : ℕ → ℕ) → greatest_below (n + 1) f ≡ max (greatest_below n f) (f n)
unfolding greatest_below
greatest-more n f = rw add-one refl

pub greatest-same : (n : ℕ) (f g : ℕ → ℕ) → ((k : ℕ) → k < n → f k ≡ g k) → greatest_below n f ≡ greatest_below n g
unfolding greatest_below
greatest-same zero f g e = refl
greatest-same (suc n) f g e =
    let rest = greatest-same n f g (λ k h. e k (omega arith)) in
    let last = e n (omega arith) in
    ap (λ m. max m (f n)) rest ∙ ap (λ m. max (greatest_below n g) m) last

-- none of them is greater
pub greatest-most : (n : ℕ) (f : ℕ → ℕ) (k : ℕ) → k < n → f k ≤ greatest_below n f
unfolding greatest_below
greatest-most zero f k h = absurd (omega arith)
greatest-most (suc n) f k h =
    below-or k n
    (λ l. let m = greatest-most n f k l in omega arith)
    (λ g. let same : k ≡ n = omega arith in let e = ap f same in omega arith)

-- one of them is as great
pub greatest-met : (n : ℕ) (f : ℕ → ℕ) → 0 < n → (k : ℕ) × (k < n) × (f k ≡ greatest_below n f)
unfolding greatest_below
greatest-met zero f h = absurd (omega arith)
greatest-met (suc n) f h =
    below-or (f n) (greatest_below n f)
    (λ l. below-or 0 n
    (λ some. let m = greatest-met n f some in let less = m.1 in let e = m.2 in (m.0, omega arith, omega arith))
    (λ none. let zero-of : n ≡ 0 = omega arith in let z : greatest_below n f ≡ 0 = ap (λ m. greatest_below m f) zero-of in (n, omega arith, omega arith)))
    (λ g. (n, omega arith, omega arith))

-- a bound of each is one of the greatest
pub greatest-bound : (n : ℕ) (f : ℕ → ℕ) (m : ℕ) → ((k : ℕ) → k < n → f k ≤ m) → greatest_below n f ≤ m
unfolding greatest_below
greatest-bound zero f m h = omega arith
greatest-bound (suc n) f m h =
    let rest = greatest-bound n f m (λ k l. h k (omega arith)) in
    let last = h n (omega arith) in
    omega arith

-- the greater of two numbers, as code gives it
ranked : (a b : ℕ) (r : Ordering) → MatchOrdering r (pos b <ℤ pos a) (pos b ≡ pos a) (pos a <ℤ pos b) → cond (is_lt r) (pos a) (pos b) ≡ pos (max a b)
ranked a b Less h = omega (arith, ints)
ranked a b Equal h = omega (arith, ints)
ranked a b Greater h = omega (arith, ints)

pub greater-is : (a b : ℕ) → ord_max int_cmp (pos a) (pos b) ≡ pos (max a b)
greater-is a b = ranked a b (int_cmp (pos b) (pos a)) (int_ranks (pos b) (pos a))

-- the greatest of some numbers and of those behind them
greatest-append : (a b : ℕ) (f : ℕ → ℕ) → greatest_below (a + b) f ≡ max (greatest_below a f) (greatest_below b (λ k. f (a + k)))
unfolding greatest_below
greatest-append a zero f = let e : a + 0 ≡ a = omega arith in ap (λ n. greatest_below n f) e ∙ omega arith
greatest-append a (suc b) f =
    let e : a + suc b ≡ suc (a + b) = omega arith in
    let rest = greatest-append a b f in
    ap (λ n. greatest_below n f) e ∙ omega arith

-- the difference of two values in range
pub difference-small : (a b : ℤ) → IsValue a → IsValue b → unsigned_abs (b -ℤ a) ≤ 2000000000000
difference-small a b p q = omega (arith, ints)

-- the difference of two lists at a place
abbrev pub gap : List ℤ → List ℤ → ℕ → ℕ
gap old new k = unsigned_abs (get_or new k (pos 0) -ℤ get_or old k (pos 0))

-- one more place of two lists, as code computes it
pub change-next : (old new : List ℤ) (n : ℕ) (most step result : ℤ) → All IsValue old → All IsValue new
    → most ≡ pos (greatest_below n (gap old new)) → IsChange most
    → step ≡ pos (unsigned_abs (to_z w64 (of_z w64 (to_z w64 (of_z w64 (get_or new n (pos 0))) -ℤ to_z w64 (of_z w64 (get_or old n (pos 0)))))))
    → result ≡ ord_max int_cmp most (to_z w64 (of_z w64 step))
    → (to_z w64 (of_z w64 result) ≡ pos (greatest_below (n + 1) (gap old new))) × IsChange (to_z w64 (of_z w64 result))
change-next old new n most step result p q is small made greater =
    let a = get_or old n (pos 0) in
    let b = get_or new n (pos 0) in
    let a-small : IsValue a = value-at old n p in
    let b-small : IsValue b = value-at new n q in
    let d-small : unsigned_abs (b -ℤ a) ≤ 2000000000000 = difference-small a b a-small b-small in
    let met : step ≡ pos (gap old new n) =
    made ∙ ap (λ z. pos (unsigned_abs z))
    (ap (λ z. to_z w64 (of_z w64 (z -ℤ to_z w64 (of_z w64 a)))) (back b (omega arith))
    ∙ ap (λ z. to_z w64 (of_z w64 (b -ℤ z))) (back a (omega arith)) ∙ back (b -ℤ a) (omega arith)) in
    let step-is : to_z w64 (of_z w64 step) ≡ pos (gap old new n) = back step (omega (arith, ints)) ∙ met in
    let all : result ≡ pos (greatest_below (n + 1) (gap old new)) =
    greater ∙ ap (λ z. ord_max int_cmp z (to_z w64 (of_z w64 step))) is
    ∙ ap (ord_max int_cmp (pos (greatest_below n (gap old new)))) step-is
    ∙ greater-is (greatest_below n (gap old new)) (gap old new n)
    ∙ ap (λ (m : ℕ). pos m) (sym (greatest-more n (gap old new))) in
    let more = greatest-more n (gap old new) in
    let bound : greatest_below (n + 1) (gap old new) ≤ 2000000000000 = omega (arith, ints) in
    let same : to_z w64 (of_z w64 result) ≡ pos (greatest_below (n + 1) (gap old new)) = back result (omega (arith, ints)) ∙ all in
    (same, subst IsChange (sym same) (omega (arith, ints), omega (arith, ints)))

-- a place among the own cells of a row, as the code cuts them
own-cut : (rows cols reach row start k col : ℕ) (values : List ℤ) → start ≡ (reach + row) * (cols + 2 * reach) + reach → k ≡ cols → col < cols
    → get_or (take k (drop start values)) col (pos 0) ≡ at (part_of rows cols reach values) (reach + row) (reach + col)
own-cut rows cols reach row start k col values place size less =
    let there : start + col ≡ (reach + row) * (cols + 2 * reach) + (reach + col) = omega arith in
    get_or-chunk start k values col (pos 0) (omega arith) ∙ ap (λ n. get_or values n (pos 0)) there

-- the greatest change of the own cells of a row, as the code cuts them
pub row-change-is : (g next : Plane) (top left rows cols reach row start k : ℕ) (old new : List ℤ) → IsPart (part_of rows cols reach old) → row < rows
    → start ≡ (reach + row) * (cols + 2 * reach) + reach → k ≡ start + cols - start
    → HoldsOwnRow g top left row (part_of rows cols reach old) → HoldsOwnRow next top left row (part_of rows cols reach new)
    → list_change (take k (drop start old)) (take k (drop start new)) ≡ row_change g next left cols (top + row)
row-change-is g next top left rows cols reach row start k old new part less place size was is =
    let room = own-room rows cols reach row old part less in
    let same : k ≡ cols = omega arith in
    let long : length (take k (drop start old)) ≡ cols = ap (λ n. length (take n (drop start old))) size ∙ part-length old start cols (omega arith) in
    ap (λ n. greatest_below n (gap (take k (drop start old)) (take k (drop start new)))) long
    ∙ greatest-same cols (gap (take k (drop start old)) (take k (drop start new))) (λ col. difference g next (top + row) (left + col))
    (λ col l. ap (λ z. unsigned_abs (z -ℤ get_or (take k (drop start old)) col (pos 0))) (own-cut rows cols reach row start k col new place same l ∙ is col l)
    ∙ ap (λ z. unsigned_abs (cell next (top + row) (left + col) -ℤ z)) (own-cut rows cols reach row start k col old place same l ∙ was col l))

-- the code's words of 64 bits hold a change
pub change-back : (z : ℤ) → IsChange z → to_z w64 (of_z w64 z) ≡ z
change-back z h = back z (omega (arith, ints))

either : (a b : ℤ) (r : Ordering) → IsChange a → IsChange b → IsChange (cond (is_lt r) a b)
either a b Less h k = h
either a b Equal h k = k
either a b Greater h k = k

-- the greater of two changes is one
greater-kept : (most step result : ℤ) → IsChange most → IsChange step → result ≡ ord_max int_cmp most (to_z w64 (of_z w64 step)) → IsChange result
greater-kept most step result p q greater =
    let same = change-back step q in
    subst IsChange (sym (greater ∙ ap (ord_max int_cmp most) same)) (either most step (int_cmp step most) p q)

-- the same, as code keeps it
pub change-kept : (most step result : ℤ) → IsChange most → IsChange step → result ≡ ord_max int_cmp most (to_z w64 (of_z w64 step))
    → IsChange (to_z w64 (of_z w64 result))
change-kept most step result p q greater =
    let kept = greater-kept most step result p q greater in
    subst IsChange (sym (change-back result kept)) kept

-- the change of no rows
pub rows-none : (old new : Plane) (top left cols : ℕ) → pos 0 ≡ pos (change_within old new top 0 left cols)
rows-none old new top left cols = ap (λ (m : ℕ). pos m) (sym (greatest-none (λ r. row_change old new left cols (top + r))))

-- the greater of two changes, as code keeps it
pub greater-joined : (a b : ℕ) (most step result : ℤ) → IsChange most → IsChange step → most ≡ pos a → step ≡ pos b
    → result ≡ ord_max int_cmp most (to_z w64 (of_z w64 step)) → to_z w64 (of_z w64 result) ≡ pos (max a b)
greater-joined a b most step result p q is met greater =
    change-back result (greater-kept most step result p q greater)
    ∙ greater ∙ ap (λ z. ord_max int_cmp z (to_z w64 (of_z w64 step))) is
    ∙ ap (ord_max int_cmp (pos a)) (change-back step q ∙ met)
    ∙ greater-is a b

-- that of one more row
pub change-more : (old new : Plane) (top left cols n : ℕ) (most step result : ℤ) → IsChange most → IsChange step
    → most ≡ pos (change_within old new top n left cols) → step ≡ pos (row_change old new left cols (top + n))
    → result ≡ ord_max int_cmp most (to_z w64 (of_z w64 step))
    → to_z w64 (of_z w64 result) ≡ pos (change_within old new top (n + 1) left cols)
change-more old new top left cols n most step result p q is row greater =
    greater-joined (change_within old new top n left cols) (row_change old new left cols (top + n)) most step result p q is row greater
    ∙ ap (λ (m : ℕ). pos m) (sym (greatest-more n (λ r. row_change old new left cols (top + r))))

-- the change of rows, and of rows below them
pub change-append : (old new : Plane) (top rows more left cols : ℕ)
    → change_within old new top (rows + more) left cols ≡ max (change_within old new top rows left cols) (change_within old new (top + rows) more left cols)
change-append old new top rows more left cols =
    let f : ℕ → ℕ = λ r. row_change old new left cols (top + r) in
    let same : greatest_below more (λ k. f (rows + k)) ≡ change_within old new (top + rows) more left cols =
    greatest-same more (λ k. f (rows + k)) (λ k. row_change old new left cols (top + rows + k))
    (λ k l. let e : top + (rows + k) ≡ top + rows + k = omega arith in ap (row_change old new left cols) e) in
    greatest-append rows more f ∙ ap (max (change_within old new top rows left cols)) same

-- ---- the padded grid

-- a cell, counted from the first row and column
pub from-first : (g : Plane) (row col : ℕ) → cell g row col ≡ cell g (0 + row) (0 + col)
from-first g row col =
    let down : row ≡ 0 + row = omega arith in
    let right : col ≡ 0 + col = omega arith in
    λ i. cell g (down i) (right i)

-- the own cells of a padded grid are the grid's
pub padded-held : (g : Plane) (rule : Rule) (rows cols row r : ℕ) (values : List ℤ) → r ≡ rule.weights.reach → IsPadded (cell g) rule rows cols values → row < rows → g.cols ≡ cols
    → HoldsOwnRow g 0 0 row (part_of rows cols r values)
padded-held g rule rows cols row r values reach padded less same col l =
    ap (λ k. get_or values ((k + row) * (cols + 2 * k) + (k + col)) (pos 0)) reach
    ∙ own-cell g rule rows cols row col values padded less l same
    ∙ ap (λ n. get_or g.values (row * n + col) (pos 0)) (sym same) ∙ from-first g row col

-- the own cells of a row that was computed are those of the next grid
pub computed-held : (g : Plane) (rule : Rule) (rows cols row r : ℕ) (next : List ℤ) → r ≡ rule.weights.reach → RowsAre (new_cell g rule) rule cols next (row + 1)
    → row < g.rows → g.cols ≡ cols → HoldsOwnRow (next_plane g rule) 0 0 row (part_of rows cols r next)
computed-held g rule rows cols row r next reach done less same col l =
    ap (λ k. get_or next ((k + row) * (cols + 2 * k) + (k + col)) (pos 0)) reach
    ∙ done row (rule.weights.reach + col) (omega arith) (omega arith)
    ∙ end-inside rule cols col (new_cell g rule row) l
    ∙ sym (next-cells g rule row col less (omega arith)) ∙ from-first (next_plane g rule) row col
