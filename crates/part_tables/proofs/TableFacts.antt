-- The tables of a geometry, made in passes over its cells, and what they hold at a place. A pass keeps that the table
-- is right for the cells so far; a part has its first cell at the cell where its number is that of the parts so far.
use Rattle.std.proofs.Common.{◌≡◌, ◌≢◌, ℕ, ◌+◌, ◌-◌, ◌<◌, ◌≤◌, List, [], ◌∷◌, ◌++◌, length, get_or, map, refl, ap, sym, ◌∙◌, arith, inl, inr}
use Rattle.std.specs.List.{range_with_len}
use Rattle.std.proofs.lemmas.Bool.{cases_lt}
use Rattle.std.proofs.lemmas.List.{length_push, nil_from_length}
use Rattle.std.proofs.lemmas.List.FromFn.{map-range_with_len_more, length-map-range_with_len, get_or-map-range_with_len}
use Rattle.part_geometry.specs.declared.walk.Cell.{Cell}
use Rattle.part_geometry.specs.Shape.{Shape, IsShape}
use Rattle.part_geometry.specs.Cells.{cells, send_of}
use Rattle.part_geometry.specs.Pieces.{pieces, piece_of, first_cell, last_cell, first_part, last_part, need_count}
use Rattle.part_geometry.specs.Walk.{cell_at}
use Rattle.part_geometry.proofs.PieceFacts.{piece-ordered, piece_of-holds, pieces-le, need_count-pos, need_count-le}
use Rattle.part_geometry.proofs.ReaderFacts.{cells-few}
use Rattle.part_geometry.proofs.Parts.{send-below}
use Rattle.part_geometry.proofs.Rows.{IsRow, row-le, send-row, recv-row, piece-row}
use Rattle.part_tables.specs.declared.tables.Row.{Row}
use Rattle.part_tables.specs.declared.tables.Row.TheVariants.{Send, Recv, Piece}
use Rattle.part_tables.specs.Parts.{cells_before}
use Rattle.part_tables.specs.Tables.{IsTable, part_in, part_at, part_count}
use Rattle.part_tables.proofs.CountFacts.{cells_before-is, before-all}
use Rattle.part_tables.proofs.ShareFacts.{piece-first, piece-after}

-- a table with the next value pushed has one value more
pub table_more : {X : Type 0} (f : ℕ → X) (i : ℕ) (x : X) (xs ys : List X) → IsTable f i xs → x ≡ f i → ys ≡ xs ++ x ∷ [] → IsTable f (i + 1) ys
table_more {X} f i x xs ys before is after = rw (after, before, is, map-range_with_len_more f 0 i i (omega arith)) refl

-- a table for 0 to n - 1 has n values
pub table_len : {X : Type 0} (f : ℕ → X) (n : ℕ) (xs : List X) → IsTable f n xs → length xs ≡ n
table_len {X} f n xs is = rw is (length-map-range_with_len f 0 n)

-- and at each place the value of that place
pub table_at : {X : Type 0} (f : ℕ → X) (n c : ℕ) (d : X) (xs : List X) → IsTable f n xs → c < n → get_or xs c d ≡ f c
table_at {X} f n c d xs is inside = rw is (get_or-map-range_with_len f 0 n c c d inside (omega arith))

-- the first cells of the parts among the first c cells
pub record SoFar (f : ℕ → ℕ) (n c : ℕ) (firsts : List ℕ) : Type 0 where
  pub none : c ≡ 0 → length firsts ≡ 0
  pub size : 0 < c → length firsts ≡ f (c - 1) + 1
  pub table : IsTable (cells_before f n) (length firsts) firsts

-- before the first cell the table is empty
pub so_far_none : (f : ℕ → ℕ) (n : ℕ) (firsts : List ℕ) → length firsts ≡ 0 → SoFar f n 0 firsts
so_far_none f n firsts empty = record {
  none = λ e. empty;
  size = λ h. absurd (omega arith);
  table = (let e = nil_from_length firsts empty in rw e refl);
}

back : (c : ℕ) → c + 1 - 1 ≡ c
back c = omega arith

-- a part that has none yet begins at cell c
so_far_new : (f : ℕ → ℕ) (n count c : ℕ) (firsts : List ℕ) → IsRow f n count → c < n → SoFar f n c firsts → f c ≡ length firsts → SoFar f n (c + 1) (firsts ++ c ∷ [])
so_far_new f n count c firsts row inside s new =
    let longer = length_push firsts c in
    let first : cells_before f n (length firsts) ≡ c = cells_before-is f n (length firsts) c record {
      few = omega arith;
      before = λ x under.
          let size = s.size (omega arith) in
          let up = row-le f n count row x (c - 1) (omega arith) (omega arith) in omega arith;
      behind = λ x from below. let up = row-le f n count row c x from below in omega arith;
    } in
    record {
      none = λ e. absurd (omega arith);
      size = λ h. rw (back c) (omega arith);
      table = rw longer (table_more (cells_before f n) (length firsts) c firsts (firsts ++ c ∷ []) s.table (sym first) refl);
    }

-- or the cell lies in the part of the one before
so_far_same : (f : ℕ → ℕ) (n count c : ℕ) (firsts : List ℕ) → IsRow f n count → c < n → SoFar f n c firsts → f c ≢ length firsts → SoFar f n (c + 1) firsts
so_far_same f n count c firsts row inside s other =
    elim (cases_lt 0 c) [
      | inl some ↦
          let size = s.size some in
          let up = row.rises (c - 1) (omega arith) in
          let step = row.step (c - 1) (omega arith) in
          let there : f (c - 1 + 1) ≡ f c = ap f (let z : c - 1 + 1 ≡ c = omega arith in z) in
          record {
            none = λ z. absurd (omega arith);
            size = λ h. rw (back c) (omega arith);
            table = s.table;
          }
      | inr none ↦
          let first : f c ≡ 0 = ap f (let z : c ≡ 0 = omega arith in z) ∙ row.first in
          let empty = s.none (omega arith) in absurd (other (omega arith))
    ]

-- the parts of the cells form a row, by whichever side, or by pieces
pub row_is : (row : Row) (g : Shape) → IsShape g → IsRow (part_at row g) (cells g) (part_count row g)
row_is Send g v = send-row g v
row_is Recv g v = recv-row g v
row_is Piece g v = piece-row g v

-- the part that a cell says is that of its number
part_in-cell_at : (row : Row) (g : Shape) (c : ℕ) → part_in row (cell_at g c) ≡ part_at row g c
part_in-cell_at Send g c = refl
part_in-cell_at Recv g c = refl
part_in-cell_at Piece g c = refl

-- and so is the part of the cell that the list has at a place
part_there : (row : Row) (g : Shape) (all : List Cell) (c : ℕ) (d : Cell) → IsTable (cell_at g) (cells g) all → c < length all → part_in row (get_or all c d) ≡ part_at row g c
part_there row g all c d is inside =
    let size = table_len (cell_at g) (cells g) all is in
    ap (part_in row) (table_at (cell_at g) (cells g) c d all is (omega arith)) ∙ part_in-cell_at row g c

-- one turn of the pass where the cell's part is new: the cell is pushed
pub so_far_pushed : (row : Row) (g : Shape) (all : List Cell) (d : Cell) (c part : ℕ) (firsts firsts' : List ℕ) → IsShape g
    → IsTable (cell_at g) (cells g) all → c < length all → SoFar (part_at row g) (cells g) c firsts
    → part ≡ part_in row (get_or all c d) → part ≡ length firsts → firsts' ≡ firsts ++ c ∷ [] → SoFar (part_at row g) (cells g) (c + 1) firsts'
so_far_pushed row g all d c part firsts firsts' v is inside s part_is new after =
    let size = table_len (cell_at g) (cells g) all is in
    rw after (so_far_new (part_at row g) (cells g) (part_count row g) c firsts (row_is row g v) (omega arith) s
    (sym (part_there row g all c d is inside) ∙ sym part_is ∙ new))

-- one turn where the part has its first cell already: the table stays
pub so_far_kept : (row : Row) (g : Shape) (all : List Cell) (d : Cell) (c part : ℕ) (firsts : List ℕ) → IsShape g
    → IsTable (cell_at g) (cells g) all → c < length all → SoFar (part_at row g) (cells g) c firsts
    → part ≡ part_in row (get_or all c d) → part ≢ length firsts → SoFar (part_at row g) (cells g) (c + 1) firsts
so_far_kept row g all d c part firsts v is inside s part_is other =
    let size = table_len (cell_at g) (cells g) all is in
    so_far_same (part_at row g) (cells g) (part_count row g) c firsts (row_is row g v) (omega arith) s
    (λ e. other (part_is ∙ part_there row g all c d is inside ∙ e))

-- behind the last cell the table lacks only the number of cells
pub so_far_whole : (row : Row) (g : Shape) (firsts all : List ℕ) → IsShape g → SoFar (part_at row g) (cells g) (cells g) firsts → all ≡ firsts ++ cells g ∷ []
    → IsTable (cells_before (part_at row g) (cells g)) (part_count row g + 1) all
so_far_whole row g firsts all v s is =
    let f = part_at row g in
    let r = row_is row g v in
    let size : length firsts ≡ part_count row g = s.size r.some ∙ r.last in
    let table : IsTable (cells_before f (cells g)) (part_count row g) firsts = s.table ∙ ap (λ k. map (cells_before f (cells g)) (range_with_len 0 k)) size in
    table_more (cells_before f (cells g)) (part_count row g) (cells g) firsts all table (sym (before-all f (cells g) (part_count row g) r)) is

-- the numbers of piece i, by the first cells of the pieces
pub record IsRunOf (g : Shape) (i first after : ℕ) (a b : Cell) : Type 0 where
  pub first_is : first ≡ first_cell g i
  pub after_is : after ≡ last_cell g i + 1
  pub low : first < cells g
  pub high : after ≤ cells g
  pub part_is : a.send ≡ first_part g i
  pub count : b.send + 1 - a.send ≡ need_count g i
  pub some : 1 ≤ need_count g i
  pub few : need_count g i ≤ 32
  pub ordered : a.send ≤ b.send + 1
  pub small : b.send < 1024

-- the numbers read from the tables for piece i are those of the piece, and small enough to reckon with
pub run_of : (g : Shape) → IsShape g → (all : List Cell) (firsts : List ℕ) (i first after : ℕ) (d e : Cell) → IsTable (cell_at g) (cells g) all
    → IsTable (cells_before (piece_of g) (cells g)) (pieces g + 1) firsts → i < pieces g → first ≡ get_or firsts i 0 → after ≡ get_or firsts (i + 1) 0
    → IsRunOf g i first after (get_or all first d) (get_or all (after - 1) e)
unfolding first_part last_part
run_of g v all firsts i first after d e is f inside first_read after_read =
    let o = piece-ordered g i inside in
    let o0 = o.0 in let o1 = o.1 in
    let first_is : first ≡ first_cell g i = first_read ∙ table_at (cells_before (piece_of g) (cells g)) (pieces g + 1) i 0 firsts f (omega arith) ∙ piece-first g i inside in
    let after_is : after ≡ last_cell g i + 1 = after_read ∙ table_at (cells_before (piece_of g) (cells g)) (pieces g + 1) (i + 1) 0 firsts f (omega arith) ∙ piece-after g i inside in
    let last_is : after - 1 ≡ last_cell g i = omega arith in
    let a : (get_or all first d).send ≡ send_of g first = ap (λ x. x.send) (table_at (cell_at g) (cells g) first d all is (omega arith)) in
    let b : (get_or all (after - 1) e).send ≡ send_of g (after - 1) = ap (λ x. x.send) (table_at (cell_at g) (cells g) (after - 1) e all is (omega arith)) in
    let a' : send_of g first ≡ send_of g (first_cell g i) = ap (send_of g) first_is in
    let b' : send_of g (after - 1) ≡ send_of g (last_cell g i) = ap (send_of g) last_is in
    let some = need_count-pos g v i inside in
    let few = need_count-le g v i inside in
    let below = send-below g v (last_cell g i) o1 in
    let parts = v.send_parts.1 in
    record {
      first_is = first_is;
      after_is = after_is;
      low = omega arith;
      high = omega arith;
      part_is = a ∙ a';
      count = omega arith;
      some = some;
      few = few;
      ordered = omega arith;
      small = omega arith;
    }

-- how many cells and pieces there are
pub record IsCounted (g : Shape) : Type 0 where
  pub some_cells : 1 ≤ cells g
  pub some_pieces : 1 ≤ pieces g
  pub order : pieces g ≤ cells g
  pub few : cells g < 2048

-- the numbers of cells and pieces keep these limits
pub counted : (g : Shape) → IsShape g → IsCounted g
counted g v =
    let h = cells-few g v in
    let some = h.0 in let few = h.1 in
    let s = v.send_parts.1 in let r = v.recv_parts.1 in
    let piece = (piece_of-holds g 0 (omega arith)).inside in
    record { some_cells = some; some_pieces = omega arith; order = pieces-le g; few = omega arith }

-- two neighbouring places of a table, read
pub read_two : (F : Shape → ℕ → ℕ) (g g' : Shape) (n p x y : ℕ) (firsts : List ℕ) → IsTable (F g) n firsts → g ≡ g' → p + 1 < n
    → x ≡ get_or firsts p x → y ≡ get_or firsts (p + 1) y → (x ≡ F g' p) × (y ≡ F g' (p + 1))
read_two F g g' n p x y firsts is same inside first second = (
  first ∙ table_at (F g) n p x firsts is (omega arith) ∙ ap (λ s. F s p) same,
  second ∙ table_at (F g) n (p + 1) y firsts is inside ∙ ap (λ s. F s (p + 1)) same,
)
