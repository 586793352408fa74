-- The greatest change of a grid: that of its rows, one after another. No cell changes by more, and one by as much. Of two
-- changes the greater is one.
use Rattle.std.proofs.Common.{◌≡◌, ◌∙◌, ap, ℕ, ◌+◌, ◌*◌, ◌<◌, ◌≤◌, max, ℤ, pos, ◌-ℤ◌, unsigned_abs, length, drop, get_or, to_z, of_z, w64, arith}
use Rattle.std.specs.List.{All}
use Rattle.std.specs.Int.{int_max}
use Rattle.std.proofs.lemmas.Int.{clamps, ints}
use Rattle.std.proofs.lemmas.Nat.{mul-le}
use Rattle.std.proofs.lemmas.Simd.{get_or-chunk, length-chunk}
use Rattle.std.proofs.lemmas.List.Elements.{All-take, All-drop}
use Rattle.stencil_def.specs.Limits.{IsValue}
use Rattle.stencil_def.specs.Plane.{Plane, IsPlane, cell, row_of}
use Rattle.cell_lanes.specs.Change.{IsChange, change, difference, greatest_below, list_change, row_change}
use Rattle.cell_lanes.proofs.ChangeFacts.{from-first, gap, greatest-met, greatest-most, greatest-same}

-- a row has a value for each column
pub row-length : (g : Plane) (row : ℕ) → IsPlane g → row < g.rows → length (row_of g row) ≡ g.cols
row-length g row plane less =
    let m = mul-le (row + 1) g.cols g.rows g.cols (omega arith) (omega arith) in
    let long = plane.length in
    length-chunk (row * g.cols) g.cols g.values (omega arith)

pub row-limits : (g : Plane) (row : ℕ) → IsPlane g → All IsValue (row_of g row)
row-limits g row plane = All-take IsValue g.cols (drop (row * g.cols) g.values) (All-drop IsValue (row * g.cols) g.values plane.values)

-- the change of a row, of its values before and after
pub row-change-is : (old new : Plane) (row : ℕ) → IsPlane old → row < old.rows → new.cols ≡ old.cols
    → list_change (row_of old row) (row_of new row) ≡ row_change old new 0 old.cols (0 + row)
row-change-is old new row plane less same =
    let at : (g : Plane) (col : ℕ) → col < g.cols → get_or (row_of g row) col (pos 0) ≡ cell g (0 + row) (0 + col) =
    λ g col l. get_or-chunk (row * g.cols) g.cols g.values col (pos 0) l ∙ from-first g row col in
    ap (λ n. greatest_below n (gap (row_of old row) (row_of new row))) (row-length old row plane less)
    ∙ greatest-same old.cols (gap (row_of old row) (row_of new row)) (λ col. difference old new (0 + row) (0 + col))
    (λ col l. ap (λ z. unsigned_abs (z -ℤ get_or (row_of old row) col (pos 0))) (at new col (omega arith))
    ∙ ap (λ z. unsigned_abs (cell new (0 + row) (0 + col) -ℤ z)) (at old col l))

difference-first : (old new : Plane) (row col : ℕ) → difference old new row col ≡ difference old new (0 + row) (0 + col)
difference-first old new row col =
    ap (λ z. unsigned_abs (z -ℤ cell old row col)) (from-first new row col) ∙ ap (λ z. unsigned_abs (cell new (0 + row) (0 + col) -ℤ z)) (from-first old row col)

-- no cell changes by more
pub change-most : (old new : Plane) (row col : ℕ) → row < old.rows → col < old.cols → difference old new row col ≤ change old new
change-most old new row col less l =
    let in-row = greatest-most old.cols (λ c. difference old new (0 + row) (0 + c)) col l in
    let in-grid = greatest-most old.rows (λ r. row_change old new 0 old.cols (0 + r)) row less in
    let here = difference-first old new row col in
    omega arith

-- a cell changes by as much
pub change-met : (old new : Plane) → 0 < old.rows → 0 < old.cols
    → (row : ℕ) × (col : ℕ) × (row < old.rows) × (col < old.cols) × (difference old new row col ≡ change old new)
change-met old new some-rows some-cols =
    let in-grid = greatest-met old.rows (λ r. row_change old new 0 old.cols (0 + r)) some-rows in
    let in-row = greatest-met old.cols (λ c. difference old new (0 + in-grid.0) (0 + c)) some-cols in
    (in-grid.0, in-row.0, in-grid.1, in-row.1, difference-first old new in-grid.0 in-row.0 ∙ in-row.2 ∙ in-grid.2)

-- the greater of two numbers
pub int_max-is : (a b : ℕ) → int_max (pos a) (pos b) ≡ pos (max a b)
int_max-is a b = omega (arith, ints, clamps)

-- the greater of two changes, as code computes it, is one
pub greater-is-change : (a b r : ℤ) → IsChange a → IsChange b → r ≡ int_max (to_z w64 (of_z w64 a)) (to_z w64 (of_z w64 b)) → IsChange r
greater-is-change a b r p q is = (omega (arith, ints, clamps), omega (arith, ints, clamps))
