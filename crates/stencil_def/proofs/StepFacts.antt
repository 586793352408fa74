-- A grid that is filled cell by cell with the new values. The cells are stored in the order of their places, and each
-- leaves those before it as they were, so with the last one the grid is the next grid.
use Rattle.std.proofs.Common.{◌≡◌, ◌∙◌, refl, sym, ap, subst, ℕ, ◌+◌, ◌*◌, ◌/◌, ◌%◌, ◌<◌, ◌≤◌, List, length, replicate, ℤ, pos, get_or, set, map, arith, length-set, add-one, get_or-set_same, get_or-set_other}
use Rattle.std.specs.List.{All, range_with_len}
use Rattle.std.proofs.lemmas.List.FromFn.{fill_by_all, get_or-map-range_with_len}
use Rattle.std.proofs.lemmas.List.{get_or_read, length-replicate}
use Rattle.std.proofs.lemmas.List.Elements.{All-get_or, All-replicate, All-set}
use Rattle.std.proofs.lemmas.Nat.{mul-add-lt, div-mul-add, mod-mul-add}
use Rattle.stencil_def.specs.Limits.{IsSide, IsValue}
use Rattle.stencil_def.specs.declared.limits.TheConstants.{MAX_CELLS}
use Rattle.stencil_def.specs.declared.rule.Rule.{Rule}
use Rattle.stencil_def.specs.Plane.{Plane, IsPlane, cell, plane_of, with_cell, zero_plane}
use Rattle.stencil_def.specs.Step.{new_cell, next_plane, fold_plane}

-- the new value of the k-th cell
abbrev pub new_at : Plane → Rule → ℕ → ℤ
new_at g rule k = new_cell g rule (k / g.cols) (k % g.cols)

-- the first n cells have their new values, in a grid of the same size that keeps the limits
pub record Filled (g : Plane) (rule : Rule) (next : Plane) (n : ℕ) : Type 0 where
  pub rows : next.rows ≡ g.rows
  pub cols : next.cols ≡ g.cols
  pub length : length next.values ≡ g.rows * g.cols
  pub plane : IsPlane next
  pub done : (k : ℕ) → k < n → get_or next.values k (pos 0) ≡ new_at g rule k

-- a grid in which all cells have their new values is the next grid
pub filled-all : (g : Plane) (rule : Rule) (next : Plane) → Filled g rule next (g.rows * g.cols) → next ≡ next_plane g rule
unfolding next_plane
filled-all g rule next f =
    let values : next.values ≡ map (new_at g rule) (range_with_len 0 (g.rows * g.cols)) =
    fill_by_all (new_at g rule) next.values (g.rows * g.cols) (pos 0) f.length f.done in
    let rows = f.rows in let cols = f.cols in
    (λ i. record { rows = rows i; cols = cols i; values = values i })

-- the place of a cell is before the end
pub place-inside : (g : Plane) (row col : ℕ) → row < g.rows → col < g.cols → row * g.cols + col < g.rows * g.cols
place-inside g row col p q = let h = mul-add-lt row g.cols col g.rows p q in omega (arith, h)

-- what stands at the place of a cell is its value
pub cell-read : (g : Plane) (row col : ℕ) (x : ℤ) → IsPlane g → row < g.rows → col < g.cols → x ≡ get_or g.values (row * g.cols + col) x → x ≡ cell g row col
cell-read g row col x plane p q is =
    let h = place-inside g row col p q in let long = plane.length in
    get_or_read g.values (row * g.cols + col) x (omega (arith, h, long)) is (pos 0)

-- a cell's value is in range
pub cell-limits : (g : Plane) (row col : ℕ) → IsPlane g → row < g.rows → col < g.cols → IsValue (cell g row col)
cell-limits g row col plane p q =
    let h = place-inside g row col p q in let long = plane.length in
    All-get_or IsValue g.values (row * g.cols + col) (pos 0) (omega (arith, h, long)) plane.values

-- a grid keeps its limits with another value in a cell
pub set-limits : (g : Plane) (row col : ℕ) (value : ℤ) → IsPlane g → IsValue value → IsPlane (with_cell g row col value)
set-limits g row col value plane fine = record {
  rows = plane.rows;
  cols = plane.cols;
  cells = plane.cells;
  length = length-set g.values (row * g.cols + col) value ∙ plane.length;
  values = All-set IsValue g.values (row * g.cols + col) value fine plane.values;
}

-- a cell of the next grid holds its new value
pub next-cells : (g : Plane) (rule : Rule) (row col : ℕ) → row < g.rows → col < g.cols
    → cell (next_plane g rule) row col ≡ new_cell g rule row col
unfolding next_plane
next-cells g rule row col p q =
    let at = get_or-map-range_with_len (new_at g rule) 0 (g.rows * g.cols) (row * g.cols + col) (row * g.cols + col) (pos 0) (place-inside g row col p q) (omega arith) in
    let h : new_at g rule (row * g.cols + col) ≡ new_cell g rule row col =
    rw (div-mul-add row g.cols col q, mod-mul-add row g.cols col q) refl in
    at ∙ h

-- a grid of zeros keeps the limits
pub zero-limits : (rows cols : ℕ) (values : List ℤ) → IsSide rows → IsSide cols → rows * cols ≤ MAX_CELLS
    → values ≡ replicate (rows * cols) (pos 0) → IsPlane (plane_of rows cols values)
zero-limits rows cols values p q few is = record {
  rows = p;
  cols = q;
  cells = few;
  length = ap length is ∙ length-replicate (rows * cols) (pos 0);
  values = subst (All IsValue) (sym is) (All-replicate IsValue (rows * cols) (pos 0) (omega arith));
}

-- at first no cell is filled
pub filled-none : (g : Plane) (rule : Rule) (next : Plane) (rows cols : ℕ) → next ≡ zero_plane rows cols → rows ≡ g.rows → cols ≡ g.cols → IsPlane next → Filled g rule next (0 * g.cols)
filled-none g rule next rows cols is e f plane =
    let down = ap (λ (w : Plane). w.rows) is ∙ e in
    let right = ap (λ (w : Plane). w.cols) is ∙ f in
    record {
      rows = down;
      cols = right;
      length = plane.length ∙ (ap (λ n. n * next.cols) down ∙ ap (λ n. g.rows * n) right);
      plane = plane;
      done = λ k h. absurd (omega (arith, h));
    }

-- once the cell behind the filled ones is set to its new value, one more cell is filled
pub filled-more : (g : Plane) (rule : Rule) (next after : Plane) (row col : ℕ) (value : ℤ) → row < g.rows → col < g.cols
    → value ≡ new_cell g rule row col
    → after ≡ with_cell next row col value
    → IsPlane after
    → Filled g rule next (row * g.cols + col)
    → Filled g rule after (row * g.cols + (col + 1))
filled-more g rule next after row col value p q e is plane f =
    let n = row * g.cols + col in
    let at : row * next.cols + col ≡ n = rw f.cols refl in
    let room : n < length next.values = rw f.length (place-inside g row col p q) in
    let new : new_at g rule n ≡ value = rw (div-mul-add row g.cols col q, mod-mul-add row g.cols col q) (sym e) in
    let values : after.values ≡ set next.values n value = ap (λ w. w.values) is ∙ ap (λ k. set next.values k value) at in
    record {
      rows = ap (λ w. w.rows) is ∙ f.rows;
      cols = ap (λ w. w.cols) is ∙ f.cols;
      length = rw values (length-set next.values n value ∙ f.length);
      plane = plane;
      done = rw values (λ k h. grind (arith, f.done k, new, get_or-set_same next.values n value (pos 0) room, get_or-set_other next.values n k value (pos 0)));
    }

-- where all columns of a row are filled, all cells before the next row are: one number, as both loops write it
pub filled-row : (g : Plane) (rule : Rule) (next : Plane) (row : ℕ) → Filled g rule next (row * g.cols + g.cols) → Filled g rule next ((row + 1) * g.cols)
filled-row g rule next row f = record {
  rows = f.rows;
  cols = f.cols;
  length = f.length;
  plane = f.plane;
  done = λ k h. f.done k (omega arith);
}

-- after no step the grid is the first one
pub fold-none : (g : Plane) (rule : Rule) → fold_plane g rule 0 ≡ g
unfolding fold_plane
fold-none g rule = refl

-- the grid after n + 1 steps is the next of the grid after n
pub fold-more : (g : Plane) (rule : Rule) (n : ℕ) → fold_plane g rule (n + 1) ≡ next_plane (fold_plane g rule n) rule
unfolding fold_plane
fold-more g rule n = rw add-one refl
