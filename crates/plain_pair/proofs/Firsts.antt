-- The first cells of the numbers of a row, found in one pass. Numbers count up by steps of at most 1, so a cell has a
-- new number exactly where that is the number of firsts so far.
use Rattle.std.proofs.Common.{◌≡◌, ◌≢◌, ℕ, ◌+◌, ◌-◌, ◌<◌, ◌≤◌, List, [], ◌∷◌, ◌++◌, length, get_or, map, refl, ap, sym, ◌∙◌, arith, inl, inr}
use Rattle.std.proofs.lemmas.Bool.{cases_lt}
use Rattle.std.proofs.lemmas.List.{length_push, get_or_push, get_or_append_left}
use Rattle.std.specs.List.{range_with_len}
use Rattle.std.proofs.lemmas.List.FromFn.{length-map-range_with_len, get_or-map-range_with_len}
use Rattle.part_geometry.specs.declared.walk.Cell.{Cell}
use Rattle.part_geometry.specs.Walk.{cell_at}
use Rattle.part_geometry.specs.Shape.{Shape, IsShape}
use Rattle.part_geometry.specs.Cells.{cells}
use Rattle.part_geometry.proofs.Rows.{IsRow, row-le, row-below, send-row, recv-row, piece-row}
use Rattle.plain_pair.specs.declared.tables.Row.{Row}
use Rattle.plain_pair.specs.declared.tables.Row.TheVariants.{Send, Recv, Piece}
use Rattle.plain_pair.specs.Tables.{number, number_in, count, AreFirsts}

-- x is the first of the first i cells with number j
pub record IsFirst (f : ℕ → ℕ) (i j x : ℕ) : Type 0 where
  pub inside : x < i
  pub here : f x ≡ j
  pub before : (c : ℕ) → c < x → f c < j

-- the first cells of the numbers among the first i cells
pub record SoFar (f : ℕ → ℕ) (i : ℕ) (firsts : List ℕ) : Type 0 where
  pub none : i ≡ 0 → length firsts ≡ 0
  pub size : 0 < i → length firsts ≡ f (i - 1) + 1
  pub each : (j : ℕ) → j < length firsts → IsFirst f i j (get_or firsts j 0)

-- before the first cell there are no firsts
pub so_far_none : (f : ℕ → ℕ) (firsts : List ℕ) → length firsts ≡ 0 → SoFar f 0 firsts
so_far_none f firsts empty = record { none = λ e. empty; size = λ h. absurd (omega arith); each = λ j h. absurd (omega arith) }

-- what is the first cell of its number so far is so with one cell more
later : (f : ℕ → ℕ) (i j x : ℕ) → IsFirst f i j x → IsFirst f (i + 1) j x
later f i j x h = record { inside = (let e = h.inside in omega arith); here = h.here; before = h.before }

pred : (i : ℕ) → i + 1 - 1 ≡ i
pred i = omega arith

-- the next cell begins a new number
pub so_far_new : (f : ℕ → ℕ) (n count i : ℕ) (firsts : List ℕ) → IsRow f n count → i < n → SoFar f i firsts → f i ≡ length firsts → SoFar f (i + 1) (firsts ++ i ∷ [])
so_far_new f n count i firsts row inside s new =
    let pushed = length_push firsts i in
    record {
      none = λ e. absurd (omega arith);
      size = λ h. rw (pred i) (omega arith);
      each = λ j below. elim (cases_lt j (length firsts)) [
        | inl old ↦ rw (get_or_append_left firsts (i ∷ []) 0 j old) (later f i j _ (s.each j old))
        | inr here ↦
            let is : length firsts ≡ j = omega arith in
            rw (get_or_push firsts i 0 j is) record {
              inside = omega arith;
              here = omega arith;
              before = λ c under.
                  let size = s.size (omega arith) in
                  let up = row-le f n count row c (i - 1) (omega arith) (omega arith) in omega arith;
            }
      ];
    }

-- or it has the number of the cell before
pub so_far_same : (f : ℕ → ℕ) (n count i : ℕ) (firsts : List ℕ) → IsRow f n count → i < n → SoFar f i firsts → f i ≢ length firsts → SoFar f (i + 1) firsts
so_far_same f n count i firsts row inside s other =
    elim (cases_lt 0 i) [
      | inl some ↦
          let size = s.size some in
          let e : i - 1 + 1 ≡ i = omega arith in
          let up = row.rises (i - 1) (omega arith) in
          let step = row.step (i - 1) (omega arith) in
          let there : f (i - 1 + 1) ≡ f i = ap f e in
          record {
            none = λ z. absurd (omega arith);
            size = λ h. rw (pred i) (omega arith);
            each = λ j below. later f i j _ (s.each j below);
          }
      | inr none ↦
          let zero_is : i ≡ 0 = omega arith in
          let empty = s.none zero_is in
          let first : f i ≡ 0 = ap f zero_is ∙ row.first in
          absurd (other (first ∙ sym empty))
    ]

-- behind the last cell the firsts are whole, but for the number of cells
cells_of : (f : ℕ → ℕ) (n count : ℕ) (firsts : List ℕ) → IsRow f n count → SoFar f n firsts → (j : ℕ) → j < count
    → let all = firsts ++ n ∷ [] in
    (get_or all j 0 < get_or all (j + 1) 0) × (get_or all (j + 1) 0 ≤ n) × ((c : ℕ) → get_or all j 0 ≤ c → c < get_or all (j + 1) 0 → f c ≡ j)
    × ((c : ℕ) → c < n → f c ≡ j → (get_or all j 0 ≤ c) × (c < get_or all (j + 1) 0))
cells_of f n count firsts row s j below =
    let size : length firsts ≡ count = s.size row.some ∙ row.last in
    let h = s.each j (omega arith) in
    let x = get_or firsts j 0 in
    let first = get_or_append_left firsts (n ∷ []) 0 j (omega arith) in
    elim (cases_lt (j + 1) count) [
      | inl more ↦
          let k = s.each (j + 1) (omega arith) in
          let y = get_or firsts (j + 1) 0 in
          let next = get_or_append_left firsts (n ∷ []) 0 (j + 1) (omega arith) in
          let kh = k.here in let hh = h.here in let ki = k.inside in
          rw (first, next) (
            elim (cases_lt x y) [ inl ok ↦ ok | inr bad ↦ let up = row-le f n count row y x bad h.inside in absurd (omega arith) ],
            omega arith,
            (λ c low high. let up = row-le f n count row x c low (omega arith) in let down = k.before c high in omega arith),
            (λ c in' is. (
              elim (cases_lt c x) [ inl bad ↦ let z = h.before c bad in absurd (omega arith) | inr ok ↦ ok ],
              elim (cases_lt c y) [ inl ok ↦ ok | inr bad ↦ let up = row-le f n count row y c bad in' in absurd (omega arith) ],
            )),
          )
      | inr last ↦
          let next = get_or_push firsts n 0 (j + 1) (omega arith) in
          let hh = h.here in
          rw (first, next) (
            h.inside,
            omega arith,
            (λ c low high. let up = row-le f n count row x c low high in let down = row-below f n count row c high in omega arith),
            (λ c in' is. (elim (cases_lt c x) [ inl bad ↦ let z = h.before c bad in absurd (omega arith) | inr ok ↦ ok ], in')),
          )
    ]

-- each of the three ways to number the cells is a row
pub row_is : (row : Row) (g : Shape) → IsShape g → IsRow (number row g) (cells g) (count row g)
row_is Send g v = send-row g v
row_is Recv g v = recv-row g v
row_is Piece g v = piece-row g v

-- the firsts of all cells, with the number of cells pushed behind them, are the table
pub firsts_whole : (row : Row) (g : Shape) (firsts all : List ℕ) → IsShape g → SoFar (number row g) (cells g) firsts → all ≡ firsts ++ cells g ∷ [] → AreFirsts row g all
firsts_whole row g firsts all v s is =
    let r = row_is row g v in
    let size = s.size r.some in let last = r.last in
    rw is record {
      size = length_push firsts (cells g) ∙ (let z : length firsts + 1 ≡ count row g + 1 = omega arith in z);
      each = λ n below. let h = cells_of (number row g) (cells g) (count row g) firsts r s n below in
          record { some = h.0; inside = h.1; numbered = h.2; all = h.3 };
    }

-- the cells of a geometry, laid out, are as many as it has
pub cells_length : (g : Shape) (all : List Cell) → all ≡ map (cell_at g) (range_with_len 0 (cells g)) → length all ≡ cells g
cells_length g all is = rw is (length-map-range_with_len (cell_at g) 0 (cells g))

-- at each place stands the cell of that number
pub cell_there : (g : Shape) (all : List Cell) (c : ℕ) (d : Cell) → all ≡ map (cell_at g) (range_with_len 0 (cells g)) → c < length all → get_or all c d ≡ cell_at g c
cell_there g all c d is inside =
    let size = cells_length g all is in
    rw is (get_or-map-range_with_len (cell_at g) 0 (cells g) c c d (omega arith) (omega arith))

-- the number that a cell says is the geometry's
number_in-cell_at : (row : Row) (g : Shape) (c : ℕ) → number_in row (cell_at g c) ≡ number row g c
number_in-cell_at Send g c = refl
number_in-cell_at Recv g c = refl
number_in-cell_at Piece g c = refl

-- with its number in each row
pub number_there : (row : Row) (g : Shape) (all : List Cell) (c : ℕ) (d : Cell) → all ≡ map (cell_at g) (range_with_len 0 (cells g)) → c < length all
    → number_in row (get_or all c d) ≡ number row g c
number_there row g all c d is inside = rw (cell_there g all c d is inside) (number_in-cell_at row g c)

-- one turn of the pass where the cell has a new number: the cell is pushed
pub so_far_pushed : (row : Row) (g : Shape) (all : List Cell) (d : Cell) (c n : ℕ) (firsts firsts' : List ℕ) → IsShape g
    → all ≡ map (cell_at g) (range_with_len 0 (cells g)) → c < length all → SoFar (number row g) c firsts
    → n ≡ number_in row (get_or all c d) → n ≡ length firsts → firsts' ≡ firsts ++ c ∷ [] → SoFar (number row g) (c + 1) firsts'
so_far_pushed row g all d c n firsts firsts' v is inside s number_is new after =
    let size = cells_length g all is in
    rw after (so_far_new (number row g) (cells g) (count row g) c firsts (row_is row g v) (omega arith) s (sym (number_there row g all c d is inside) ∙ sym number_is ∙ new))

-- one turn where it hasn't: the firsts stay
pub so_far_kept : (row : Row) (g : Shape) (all : List Cell) (d : Cell) (c n : ℕ) (firsts : List ℕ) → IsShape g
    → all ≡ map (cell_at g) (range_with_len 0 (cells g)) → c < length all → SoFar (number row g) c firsts
    → n ≡ number_in row (get_or all c d) → n ≢ length firsts → SoFar (number row g) (c + 1) firsts
so_far_kept row g all d c n firsts v is inside s number_is other =
    let size = cells_length g all is in
    so_far_same (number row g) (cells g) (count row g) c firsts (row_is row g v) (omega arith) s
    (λ e. other (number_is ∙ number_there row g all c d is inside ∙ e))
