-- Where parts of a length lie that is cut into parts. A quotient grows by k at least where its numerator grows by k times
-- its divisor.
use Rattle.std.proofs.Common.{◌≡◌, sym, subst, ℕ, ◌+◌, ◌-◌, ◌*◌, ◌/◌, ◌%◌, ◌<◌, ◌≤◌, arith, inl, inr}
use Rattle.std.specs.Prelude.{◌⊎◌}
use Rattle.std.proofs.lemmas.Bool.{cases_lt}
use Rattle.std.proofs.lemmas.Nat.{mul-le, mul-add-lt, div-add-mod', div_below, le-div, mod_below}
use Rattle.part_geometry.specs.declared.TheConstants.{MAX_RANKS}
use Rattle.part_geometry.specs.Shape.{IsWithin}
use Rattle.stencil_def.specs.Limits.{IsSide}
use Rattle.halo_message.specs.declared.TheConstants.{MAX_VALUES}
use Rattle.grid_tiles.specs.Plan.{IsPlan, Plan, cols_of, cut_at, first_col, first_row, number, rows_of, tiles}

-- a part begins inside the whole, or at its end
pub cut-inside : (n parts i : ℕ) → i ≤ parts → 0 < parts → cut_at n parts i ≤ n
cut-inside n parts i few some =
    let m = mul-le i n parts n few (omega arith) in
    let d = div-add-mod' (i * n) parts in
    elim (cases_lt n (i * n / parts)) [
      | inl more ↦ let k = mul-le (n + 1) parts (i * n / parts) parts (omega arith) (omega arith) in absurd (omega (arith, m, k, d))
      | inr fine ↦ fine
    ]

-- a part has k places where all parts together have k places each
pub cut-has : (n parts i k : ℕ) → 0 < parts → parts * k ≤ n → cut_at n parts i + k ≤ cut_at n parts (i + 1)
cut-has n parts i k some enough =
    let a = i * n / parts in
    let d = div-add-mod' (i * n) parts in
    let e : (a + k) * parts ≡ a * parts + parts * k = omega arith in
    let f : (i + 1) * n ≡ i * n + n = omega arith in
    le-div (a + k) ((i + 1) * n) parts some (omega (arith, d, e, f))

-- each part has one at least
cut-some : (n parts i reach : ℕ) → IsSide n → IsWithin 1 MAX_RANKS parts → IsWithin 1 2 reach → (parts ≤ 1) ⊎ (parts * reach ≤ n) → cut_at n parts i < cut_at n parts (i + 1)
cut-some n parts i reach side count near fit =
    let one : parts * 1 ≤ n =
    elim fit [
      | inl few ↦ omega arith
      | inr more ↦ let m = mul-le parts 1 parts reach (omega arith) near.0 in omega arith
    ] in
    let h = cut-has n parts i 1 count.0 one in
    omega arith

-- each tile has a row and a column
pub rows-some : (p : Plan) (a : ℕ) → IsPlan p → first_row p a < first_row p (a + 1)
rows-some p a v = cut-some p.rows p.tile_rows a p.shape.reach v.rows v.tile_rows v.shape.reach v.rows_fit

pub cols-some : (p : Plan) (b : ℕ) → IsPlan p → first_col p b < first_col p (b + 1)
cols-some p b v = cut-some p.cols p.tile_cols b p.shape.reach v.cols v.tile_cols v.shape.reach v.cols_fit

-- with two rows of tiles or more, each has as many rows as the weights reach
pub rows-enough : (p : Plan) (a : ℕ) → IsPlan p → 2 ≤ p.tile_rows → first_row p a + p.shape.reach ≤ first_row p (a + 1)
rows-enough p a v two =
    let many : p.tile_rows * p.shape.reach ≤ p.rows = elim v.rows_fit [ inl few ↦ absurd (omega arith) | inr more ↦ more ] in
    cut-has p.rows p.tile_rows a p.shape.reach (omega arith) many

pub cols-enough : (p : Plan) (b : ℕ) → IsPlan p → 2 ≤ p.tile_cols → first_col p b + p.shape.reach ≤ first_col p (b + 1)
cols-enough p b v two =
    let many : p.tile_cols * p.shape.reach ≤ p.cols = elim v.cols_fit [ inl few ↦ absurd (omega arith) | inr more ↦ more ] in
    cut-has p.cols p.tile_cols b p.shape.reach (omega arith) many

-- a tile has a row and a column of its own
pub tile-at : (p : Plan) (t : ℕ) → IsPlan p → t < tiles p → (t / p.tile_cols < p.tile_rows) × (t % p.tile_cols < p.tile_cols)
tile-at p t v less =
    let some = v.tile_cols.0 in
    (div_below t p.tile_cols p.tile_rows some less, mod_below t p.tile_cols some)

-- the number of a tile
pub number-inside : (p : Plan) (a b : ℕ) → a < p.tile_rows → b < p.tile_cols → number p a b < tiles p
number-inside p a b l m = let h = mul-add-lt a p.tile_cols b p.tile_rows l m in omega arith

-- the columns of an edge have as many values as a message may have
pub side-values : (p : Plan) (a : ℕ) → IsPlan p → a < p.tile_rows → IsWithin 1 MAX_VALUES (rows_of p a * p.shape.reach)
side-values p a v less =
    let near = v.shape.reach in let side = v.rows in let some = rows-some p a v in
    let end = cut-inside p.rows p.tile_rows (a + 1) (omega arith) (omega arith) in
    let least = mul-le 1 1 (rows_of p a) p.shape.reach (omega arith) near.0 in
    let most = mul-le (rows_of p a) p.shape.reach 4096 2 (omega arith) near.1 in
    (omega arith, omega arith)

-- as the code finds it
pub side-found : (p : Plan) (a low high reach : ℕ) → IsPlan p → a < p.tile_rows → low ≡ first_row p a → high ≡ first_row p (a + 1) → reach ≡ p.shape.reach
    → IsWithin 1 MAX_VALUES ((high - low) * reach)
side-found p a low high reach v less from to near =
    subst (IsWithin 1 MAX_VALUES) (λ i. (sym to i - sym from i) * sym near i) (side-values p a v less)

-- as the code finds a number
pub number-found : (p : Plan) (cols a b : ℕ) → cols ≡ p.tile_cols → a < p.tile_rows → b < p.tile_cols → a * cols + b < tiles p
number-found p cols a b same l m = subst (λ n. a * n + b < tiles p) (sym same) (number-inside p a b l m)

-- a tile has no more rows and columns than the grid
pub tile-tall : (p : Plan) (t : ℕ) → IsPlan p → t < tiles p → first_row p (t / p.tile_cols) + rows_of p (t / p.tile_cols) ≤ p.rows
tile-tall p t v less =
    let a = t / p.tile_cols in let inside = (tile-at p t v less).0 in
    let end = cut-inside p.rows p.tile_rows (a + 1) (omega arith) (omega arith) in let some = rows-some p a v in
    omega arith

pub tile-wide : (p : Plan) (t : ℕ) → IsPlan p → t < tiles p → first_col p (t % p.tile_cols) + cols_of p (t % p.tile_cols) ≤ p.cols
tile-wide p t v less =
    let b = t % p.tile_cols in let inside = (tile-at p t v less).1 in
    let end = cut-inside p.cols p.tile_cols (b + 1) (omega arith) (omega arith) in let some = cols-some p b v in
    omega arith

-- and so have its rows with more columns at both sides
row-values : (p : Plan) (b : ℕ) → IsPlan p → b < p.tile_cols → IsWithin 1 MAX_VALUES (p.shape.reach * (cols_of p b + 2 * p.shape.reach))
row-values p b v less =
    let near = v.shape.reach in let side = v.cols in let some = cols-some p b v in
    let end = cut-inside p.cols p.tile_cols (b + 1) (omega arith) (omega arith) in
    let least = mul-le 1 1 p.shape.reach (cols_of p b + 2 * p.shape.reach) near.0 (omega arith) in
    let most = mul-le p.shape.reach (cols_of p b + 2 * p.shape.reach) 2 4100 near.1 (omega arith) in
    (omega arith, omega arith)

-- as the code finds it
pub rows-found : (p : Plan) (b reach count : ℕ) → IsPlan p → b < p.tile_cols → reach ≡ p.shape.reach → count ≡ cols_of p b + 2 * p.shape.reach → IsWithin 1 MAX_VALUES (reach * count)
rows-found p b reach count v less near many = subst (IsWithin 1 MAX_VALUES) (λ i. sym near i * sym many i) (row-values p b v less)
