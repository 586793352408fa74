-- A printed grid reads back as its rows: a printed row is what the default writer of records writes, and the reader
-- reads that back.
use Rattle.std.proofs.Common.{◌≡◌, ℕ, zero, suc, ◌+◌, ◌<◌, ◌≤◌, false, ℤ, List, [], ◌∷◌, ◌++◌, length, map, Some, refl, sym, ap, ◌∙◌, arith}
use Rattle.std.specs.Prelude.{◌==◌}
use Rattle.std.specs.Fmt.{signed_decimal}
use Rattle.std.specs.List.{All, flat_map, join_with_byte, list_any, range_with_len}
use Rattle.std.proofs.lemmas.Bool.Decides.{nat_tests}
use Rattle.std.proofs.lemmas.List.{append-nil}
use Rattle.std.proofs.lemmas.List.Elements.{All-head, All-tail}
use Rattle.csv.specs.Machine.{next_record}
use Rattle.csv.specs.Reading.{default_config, records, strip_bom}
use Rattle.csv.specs.Writing.{default_writer, field_text, fields_text, is_blank, needs_byte, read_back}
use Rattle.csv.specs.Writing as csv
use Rattle.csv.specs.declared.parser.State.TheVariants as st
use Rattle.csv.proofs.RoundTrip.{read-write}
use Rattle.stencil_def.specs.Limits.{IsValue}
use Rattle.grid_text.specs.Printing.{row_text}
use Rattle.grid_text.specs.Reader.{records_left}
use Rattle.grid_text.specs.Records.{records_of}
use Rattle.grid_text.proofs.PrintedNumbers.{signed-plain}
use Rattle.grid_text.proofs.RecordsLeft.{left-all, left-none, left-some}

-- the fields of a printed row
abbrev pub fields_of_row : List ℤ → List (List ℕ)
fields_of_row values = map signed_decimal values

field-same : (text : List ℕ) → list_any (needs_byte default_writer) text ≡ false → field_text default_writer text ≡ text
field-same text e = rw e refl

-- a row as the default writer of records writes it
joined-body : (x : List ℕ) (values : List ℤ) → All IsValue values
    → join_with_byte 44 (x ∷ fields_of_row values) ≡ x ++ fields_text default_writer (fields_of_row values)
unfolding fields_text
joined-body x [] h = sym (append-nil x)
joined-body x (z ∷ rest) h =
    let plain = signed-plain z (All-head IsValue z rest h) in
    rw (field-same (signed_decimal z) plain.quiet) (ap (λ (back : List ℕ). x ++ (44 ∷ back)) (joined-body (signed_decimal z) rest (All-tail IsValue z rest h)))

not-blank : (z : ℤ) (rest : List ℤ) → IsValue z → is_blank default_writer (fields_of_row (z ∷ rest)) ≡ false
unfolding is_blank
not-blank z [] h =
    let plain = signed-plain z h in
    let t : (length (plain.first ∷ plain.rest) == 0) ≡ false = grind (arith, nat_tests) in
    rw (field-same (signed_decimal z) plain.quiet, plain.begins) t
not-blank z (y ∷ more) h = refl

row-same : (z : ℤ) (rest : List ℤ) → All IsValue (z ∷ rest) → row_text (z ∷ rest) ≡ csv.row_text default_writer (fields_of_row (z ∷ rest))
unfolding row_text
row-same z rest h =
    let plain = signed-plain z (All-head IsValue z rest h) in
    rw (not-blank z rest (All-head IsValue z rest h), field-same (signed_decimal z) plain.quiet)
    (ap (λ (front : List ℕ). front ++ 10 ∷ []) (joined-body (signed_decimal z) rest (All-tail IsValue z rest h)))

-- so a row is read from the front of a text
row-read : (values : List ℤ) (tail : List ℕ) → 0 < length values → All IsValue values
    → next_record default_config st.StartRecord [] [] (row_text values ++ tail) ≡ Some (fields_of_row values, st.StartRecord, tail)
row-read [] tail n h = absurd (omega arith)
row-read (z ∷ rest) tail n h = rw (row-same z rest h) (read-write (fields_of_row (z ∷ rest)) tail)

-- the rows of a text, each with a value
pub rows-left : (row : ℕ → List ℤ) (a n : ℕ) → ((k : ℕ) → k < a + n → 0 < length (row k)) → ((k : ℕ) → k < a + n → All IsValue (row k))
    → records_left st.StartRecord (flat_map (λ k. row_text (row k)) (range_with_len a n)) ≡ map (λ k. fields_of_row (row k)) (range_with_len a n)
unfolding next_record
rows-left row a zero some h = left-none st.StartRecord [] refl
rows-left row a (suc n) some h =
    let here = row-read (row a) (flat_map (λ k. row_text (row k)) (range_with_len (a + 1) n)) (some a (omega arith)) (h a (omega arith)) in
    left-some st.StartRecord _ _ here
    ∙ ap (λ (more : List (List (List ℕ))). fields_of_row (row a) ∷ more) (rows-left row (a + 1) n (λ k e. some k (omega arith)) (λ k e. h k (omega arith)))

-- a text that begins with a printed number has no byte order mark
mark-none : (c : ℕ) (rest : List ℕ) → c ≤ 57 → strip_bom (c ∷ rest) ≡ c ∷ rest
unfolding strip_bom
mark-none c [] h = refl
mark-none c (b ∷ []) h = refl
mark-none c (b ∷ d ∷ rest) h = let t : (c == 239) ≡ false = grind (arith, nat_tests) in rw t refl

joined-first : (x : List ℕ) (more : List (List ℕ)) (first : ℕ) (rest : List ℕ) → x ≡ first ∷ rest → (tail : List ℕ) × (join_with_byte 44 (x ∷ more) ≡ first ∷ tail)
joined-first x [] first rest e = (rest, e)
joined-first x (y ∷ ys) first rest e = (rest ++ (44 ∷ join_with_byte 44 (y ∷ ys)), rw e refl)

row-first : (values : List ℤ) (tail : List ℕ) → 0 < length values → All IsValue values → strip_bom (row_text values ++ tail) ≡ row_text values ++ tail
unfolding row_text
row-first [] tail n h = absurd (omega arith)
row-first (z ∷ rest) tail n h =
    let plain = signed-plain z (All-head IsValue z rest h) in
    let first = joined-first (signed_decimal z) (fields_of_row rest) plain.first plain.rest plain.begins in
    rw first.1 (mark-none plain.first ((first.0 ++ 10 ∷ []) ++ tail) plain.low)

pub records-back : (row : ℕ → List ℤ) (n : ℕ) → ((k : ℕ) → k < n → 0 < length (row k)) → ((k : ℕ) → k < n → All IsValue (row k))
    → records_of (flat_map (λ k. row_text (row k)) (range_with_len 0 n)) ≡ map (λ k. fields_of_row (row k)) (range_with_len 0 n)
unfolding strip_bom
records-back row zero some h = sym (left-all []) ∙ rows-left row 0 zero (λ k e. some k (omega arith)) (λ k e. h k (omega arith))
records-back row (suc n) some h =
    let tail = flat_map (λ k. row_text (row k)) (range_with_len 1 n) in
    let same = row-first (row 0) tail (some 0 (omega arith)) (h 0 (omega arith)) in
    ap (λ (text : List ℕ). records default_config text) same ∙ (sym (left-all (row_text (row 0) ++ tail)) ∙ rows-left row 0 (suc n) (λ k e. some k (omega arith)) (λ k e. h k (omega arith)))
