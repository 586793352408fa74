-- A printed grid reads back as itself: its records are its rows, their fields are printed values, which have no fault,
-- and these read back as the values.
use Rattle.std.proofs.Common.{◌≡◌, ℕ, zero, suc, ◌+◌, ◌*◌, ◌<◌, ◌≤◌, true, false, ℤ, List, [], ◌∷◌, ◌++◌, length, map, take, drop, Ok, refl, sym, ap, ◌∙◌, arith}
use Rattle.std.proofs.Math.Seq.{take-add}
use Rattle.std.specs.Prelude.{◌==◌, nat_lt}
use Rattle.std.specs.Fmt.{signed_decimal}
use Rattle.std.specs.List.{All, enumerate_from, flat_map, range_with_len}
use Rattle.std.proofs.lemmas.Bool.Decides.{nat_tests}
use Rattle.std.proofs.lemmas.List.{append-nil, length-drop, length-map, length-take-le, take_all}
use Rattle.std.proofs.lemmas.List.Concat.{flat_map-append}
use Rattle.std.proofs.lemmas.List.Elements.{All-drop, All-head, All-tail, All-take}
use Rattle.std.proofs.lemmas.List.FromFn.{length-map-range_with_len}
use Rattle.std.proofs.lemmas.Nat.{mul-le}
use Rattle.stencil_def.specs.Limits.{IsValue}
use Rattle.stencil_def.specs.Plane.{IsPlane, Plane, row_of}
use Rattle.grid_text.specs.declared.rows.TextKind.TheVariants.{Grid}
use Rattle.grid_text.specs.Faults.{field_faults, is_too_large, numbered, row_faults, rows_faults, shape_faults, value_of, values_of, width}
use Rattle.grid_text.specs.Printing.{grid_text}
use Rattle.grid_text.specs.Reading.{grid_of, text_faults}
use Rattle.grid_text.specs.Records.{records_of}
use Rattle.grid_text.proofs.FaultFacts.{field-ok}
use Rattle.grid_text.proofs.PrintFacts.{range-more}
use Rattle.grid_text.proofs.PrintedNumbers.{signed-bare, signed-within}
use Rattle.grid_text.proofs.PrintedRows.{fields_of_row, records-back}
use Rattle.grid_text.proofs.RowFacts.{row-none, text-rows}

-- the fields of a row have no fault, and its numbers
number-back : (row col : ℕ) (z : ℤ) → IsValue z → (field_faults 1000000000000 row col (signed_decimal z) ≡ []) × (value_of (signed_decimal z) ≡ z)
number-back row col z h = field-ok 1000000000000 row col (signed_decimal z) (signed_decimal z) z (sym (signed-bare z h)) (signed-within z h)

numbers-none : (row col : ℕ) (values : List ℤ) → All IsValue values
    → flat_map (λ p. field_faults 1000000000000 row p.0 p.1) (enumerate_from col (fields_of_row values)) ≡ []
numbers-none row col [] h = refl
numbers-none row col (z ∷ rest) h =
    rw ((number-back row col z (All-head IsValue z rest h)).0) (numbers-none row (col + 1) rest (All-tail IsValue z rest h))

numbers-back : (values : List ℤ) → All IsValue values → map value_of (fields_of_row values) ≡ values
numbers-back [] h = refl
numbers-back (z ∷ rest) h =
    rw ((number-back 1 1 z (All-head IsValue z rest h)).1) (ap (λ (more : List ℤ). z ∷ more) (numbers-back rest (All-tail IsValue z rest h)))

-- the shape of a row within the limits
shape-none : (cols row : ℕ) → cols ≤ 4096 → row ≤ 4096 → row * cols ≤ 1000000 → shape_faults Grid cols row cols ≡ []
shape-none cols row a b c =
    let t : is_too_large cols row ≡ false = small cols row a b c in
    let u : (cols == cols) ≡ true = grind (arith, nat_tests) in
    rw (t, u) refl
  where
    small : (cols row : ℕ) → cols ≤ 4096 → row ≤ 4096 → row * cols ≤ 1000000 → is_too_large cols row ≡ false
    small cols row a b c =
        let x : nat_lt 4096 cols ≡ false = grind (arith, nat_tests) in
        let y : nat_lt 4096 row ≡ false = grind (arith, nat_tests) in
        let z : nat_lt 1000000 (row * cols) ≡ false = grind (arith, nat_tests) in
        rw (x, y, z) refl

-- the rows of a plane
below : (g : Plane) (k n : ℕ) → k < n → n ≤ g.rows → k * g.cols + g.cols ≤ n * g.cols
below g k n h m =
    let more = mul-le (k + 1) g.cols n g.cols (omega arith) (omega arith) in
    omega arith

pub row-length : (g : Plane) (k : ℕ) → IsPlane g → k < g.rows → length (row_of g k) ≡ g.cols
row-length g k h n =
    let room = below g k g.rows n (omega arith) in
    let all = h.length in
    let left = length-drop (k * g.cols) g.values in
    length-take-le g.cols (drop (k * g.cols) g.values) (omega arith)

row-values : (g : Plane) (k : ℕ) → IsPlane g → All IsValue (row_of g k)
row-values g k h = All-take IsValue g.cols (drop (k * g.cols) g.values) (All-drop IsValue (k * g.cols) g.values h.values)

rows-none : (g : Plane) (a n : ℕ) → IsPlane g → a + n ≤ g.rows
    → flat_map (λ p. row_faults Grid g.cols p.0 p.1) (enumerate_from (a + 1) (map (λ k. fields_of_row (row_of g k)) (range_with_len a n))) ≡ []
rows-none g a zero h m = refl
rows-none g a (suc n) h m =
    let len : length (fields_of_row (row_of g a)) ≡ g.cols = length-map (row_of g a) signed_decimal ∙ row-length g a h (omega arith) in
    let cells = below g a (a + 1) (omega arith) (omega arith) in
    let most = mul-le (a + 1) g.cols g.rows g.cols (omega arith) (omega arith) in
    let limit = h.cells in
    let shape = shape-none g.cols (a + 1) h.cols.1 (omega (arith, h.rows.1)) (omega arith) in
    let none = row-none Grid g.cols (a + 1) (fields_of_row (row_of g a)) (rw len shape) (numbers-none (a + 1) 1 (row_of g a) (row-values g a h)) in
    rw none (rows-none g (a + 1) n h (omega arith))

-- the values of the rows, one behind the other
rows-joined : (g : Plane) (n : ℕ) → flat_map (λ k. row_of g k) (range_with_len 0 n) ≡ take (n * g.cols) g.values
rows-joined g zero = let e : 0 * g.cols ≡ 0 = omega arith in rw e refl
rows-joined g (suc n) =
    let e : suc n ≡ n + 1 = omega arith in
    let m : suc n * g.cols ≡ n * g.cols + g.cols = omega arith in
    let z : 0 + n ≡ n = omega arith in
    rw (m, take-add (n * g.cols) g.cols g.values)
    (ap (λ (k : ℕ). flat_map (λ k. row_of g k) (range_with_len 0 k)) e ∙ (ap (flat_map (λ k. row_of g k)) (range-more 0 n)
    ∙ (flat_map-append (λ k. row_of g k) (range_with_len 0 n) ((0 + n) ∷ [])
    ∙ rw (z, append-nil (row_of g n)) (ap (λ (front : List ℤ). front ++ row_of g n) (rows-joined g n)))))

values-back : (g : Plane) (ks : List ℕ) → IsPlane g
    → flat_map (λ fields. map value_of fields) (map (λ k. fields_of_row (row_of g k)) ks) ≡ flat_map (λ k. row_of g k) ks
values-back g [] h = refl
values-back g (k ∷ ks) h =
    rw (numbers-back (row_of g k) (row-values g k h)) (ap (λ (back : List ℤ). row_of g k ++ back) (values-back g ks h))

width-back : (g : Plane) (n : ℕ) → IsPlane g → n ≡ g.rows → width (map (λ k. fields_of_row (row_of g k)) (range_with_len 0 n)) ≡ g.cols
width-back g zero h e = absurd (omega (arith, h.rows.0))
width-back g (suc n) h e = length-map (row_of g 0) signed_decimal ∙ row-length g 0 h (omega arith)

-- the rows of the text
abbrev back : Plane → List (List (List ℕ))
back g = map (λ k. fields_of_row (row_of g k)) (range_with_len 0 g.rows)

records-of-text : (g : Plane) → IsPlane g → records_of (grid_text g) ≡ back g
unfolding grid_text
records-of-text g h =
    records-back (λ k. row_of g k) g.rows (λ k n. (let len = row-length g k h n in omega (arith, h.cols.0))) (λ k n. row-values g k h)

-- a grid in its limits is what its text reads as
pub grid-back : (g : Plane) → IsPlane g → grid_of (grid_text g) ≡ Ok g
unfolding grid_of rows_faults values_of
grid-back g h =
    let rows = records-of-text g h in
    let count : length (back g) ≡ g.rows = length-map-range_with_len (λ k. fields_of_row (row_of g k)) 0 g.rows in
    let wide : width (back g) ≡ g.cols = width-back g g.rows h refl in
    let none : numbered (row_faults Grid g.cols) (back g) ≡ [] = rows-none g 0 g.rows h (omega arith) in
    let some = text-rows Grid (back g) (omega (arith, h.rows.0)) in
    let values : flat_map (λ fields. map value_of fields) (back g) ≡ g.values =
    values-back g (range_with_len 0 g.rows) h ∙ (rows-joined g g.rows ∙ take_all (g.rows * g.cols) g.values (omega (arith, h.length))) in
    finish g (back g) some wide none count values rows
  where
    finish : (g : Plane) (rows : List (List (List ℕ))) → text_faults Grid rows ≡ rows_faults Grid rows → width rows ≡ g.cols
        → numbered (row_faults Grid g.cols) rows ≡ [] → length rows ≡ g.rows → flat_map (λ fields. map value_of fields) rows ≡ g.values
        → records_of (grid_text g) ≡ rows → grid_of (grid_text g) ≡ Ok g
    finish g rows some wide none count values e =
        let faultless : text_faults Grid rows ≡ [] = some ∙ rw wide none in
        rw (e, faultless, count, wide, values) refl
