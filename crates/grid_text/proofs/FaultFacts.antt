-- What it says of rows and fields that they have no fault: their list of faults is empty, so each of its tests is
-- false.
use Rattle.std.proofs.Common.{◌≡◌, ℕ, ◌+◌, ◌*◌, ◌≤◌, Bool, true, false, ℤ, pos, unsigned_abs, List, [], ◌∷◌, length, map, Result, Ok, Err, refl, sym, arith}
use Rattle.std.proofs.Common.{inl, inr}
use Rattle.std.specs.Prelude.{◌⊎◌, unwrap_or, not, ◌==◌}
use Rattle.std.specs.List.{All, enumerate_from, flat_map}
use Rattle.std.proofs.lemmas.Bool.Decides.{nat_tests}
use Rattle.std.proofs.lemmas.List.{length-append, length-map}
use Rattle.std.proofs.lemmas.List.Elements.{All-append, All-cons, All-nil}
use Rattle.grid_text.specs.declared.fault.TextFault.{TextFault}
use Rattle.grid_text.specs.declared.fault.TextFault.TheVariants as fault
use Rattle.grid_text.specs.declared.number.NumberFault.{NumberFault}
use Rattle.grid_text.specs.declared.number.NumberFault.TheVariants as number
use Rattle.grid_text.specs.declared.rows.TextKind.{TextKind}
use Rattle.grid_text.specs.declared.rows.TextKind.TheVariants.{Grid, Weights}
use Rattle.grid_text.specs.Numbers.{bare, signed_of, within}
use Rattle.grid_text.specs.Faults.{field_faults, is_bad_weights, is_too_large, limit_of, number_faults, row_faults, rows_faults, shape_faults, value_of, values_of, when, width}
use Rattle.grid_text.proofs.NumberFacts.{within-ok}
use Rattle.grid_text.proofs.ListFacts.{append-none}

-- a field whose number is within the limit
pub field-ok : (limit row col : ℕ) (field text : List ℕ) (z : ℤ) → text ≡ bare field → Ok z ≡ within limit (signed_of text)
    → (field_faults limit row col field ≡ []) × (value_of field ≡ z)
unfolding field_faults value_of
field-ok limit row col field text z t e =
    let e' : Ok z ≡ within limit (signed_of (bare field)) = rw t at e in
    let o = within-ok limit (signed_of (bare field)) z e' in
    (rw (← e') refl, rw o.0 refl)

-- a field whose number has no form of a number, or isn't within the limit, has this fault alone
pub field-err : (limit row col : ℕ) (field text : List ℕ) (f : NumberFault) → text ≡ bare field → Err f ≡ within limit (signed_of text)
    → field_faults limit row col field ≡ number_faults row col (Err f)
unfolding field_faults
field-err limit row col field text f t e =
    let e' : Err f ≡ within limit (signed_of (bare field)) = rw t at e in
    rw (← e') refl

-- a field without a fault has a number within the limit
field-limit : (limit row col : ℕ) (field : List ℕ) → field_faults limit row col field ≡ [] → unsigned_abs (value_of field) ≤ limit
unfolding field_faults value_of
field-limit limit row col field e = by (within limit (signed_of (bare field))) refl e
  where
    by : (r : Result ℤ NumberFault) → within limit (signed_of (bare field)) ≡ r → number_faults row col r ≡ []
        → unsigned_abs (unwrap_or (signed_of (bare field)) (pos 0)) ≤ limit
    by (Ok z) w n = let o = within-ok limit (signed_of (bare field)) z (sym w) in rw o.0 o.1
    by (Err number.BadForm) w n = cc n
    by (Err number.OutOfRange) w n = cc n

fields-limit : (limit row col : ℕ) (fields : List (List ℕ)) → flat_map (λ p. field_faults limit row p.0 p.1) (enumerate_from col fields) ≡ []
    → All (λ z. unsigned_abs z ≤ limit) (map value_of fields)
fields-limit limit row col [] e = All-nil (λ z. unsigned_abs z ≤ limit)
fields-limit limit row col (f ∷ rest) e =
    let both = append-none (field_faults limit row col f) _ e in
    All-cons (λ z. unsigned_abs z ≤ limit) (value_of f) _ (field-limit limit row col f both.0) (fields-limit limit row (col + 1) rest both.1)

-- the tests of a shape
test-false : (test : Bool) (f : TextFault) → when test f ≡ [] → test ≡ false
test-false true f e = cc e
test-false false f e = refl

-- where a row's shape has no fault, it has as many fields as row 1
pub shape-same : (kind : TextKind) (c row count : ℕ) → shape_faults kind c row count ≡ [] → count ≡ c
shape-same Grid c row count e =
    let both = append-none (when (is_too_large c row) (fault.TooLarge row)) _ e in
    let t = test-false (not (count == c)) (fault.Ragged row) both.1 in
    grind (arith, nat_tests)
shape-same Weights c row count e =
    let t = test-false (is_bad_weights c row count) (fault.BadWeights row) e in
    grind (arith, nat_tests)

-- where the shape of a grid's row has no fault, there are at most 4,096 columns and rows, and 1,000,000 cells up to it
pub grid-small : (c row count : ℕ) → shape_faults Grid c row count ≡ [] → (c ≤ 4096) × (row ≤ 4096) × (row * c ≤ 1000000)
grid-small c row count e =
    let both = append-none (when (is_too_large c row) (fault.TooLarge row)) _ e in
    let t = test-false (is_too_large c row) (fault.TooLarge row) both.0 in
    large c row t
  where
    large : (c row : ℕ) → is_too_large c row ≡ false → (c ≤ 4096) × (row ≤ 4096) × (row * c ≤ 1000000)
    large c row t = (grind (arith, nat_tests), grind (arith, nat_tests), grind (arith, nat_tests))

-- where the shape of a row of weights has no fault, there are 3 or 5 columns, and no more rows than that up to it
pub weights-small : (c row count : ℕ) → shape_faults Weights c row count ≡ [] → ((c ≡ 3) ⊎ (c ≡ 5)) × (row ≤ c)
weights-small c row count e =
    let t = test-false (is_bad_weights c row count) (fault.BadWeights row) e in
    bad c row count t
  where
    bad : (c row count : ℕ) → is_bad_weights c row count ≡ false → ((c ≡ 3) ⊎ (c ≡ 5)) × (row ≤ c)
    bad c row count t = (grind (arith, nat_tests), grind (arith, nat_tests))

-- where a row's shape has no fault, there are at most 4,096 rows up to it and at most 4,096 columns
pub shape-few : (kind : TextKind) (c row count : ℕ) → shape_faults kind c row count ≡ [] → (row ≤ 4096) × (c ≤ 4096)
shape-few Grid c row count e = let s = grid-small c row count e in (s.1, s.0)
shape-few Weights c row count e =
    let s = weights-small c row count e in
    elim s.0 [ inl t ↦ (omega arith, omega arith) | inr t ↦ (omega arith, omega arith) ]

-- rows without a fault
rows-length : (kind : TextKind) (c n : ℕ) (rows : List (List (List ℕ))) → flat_map (λ p. row_faults kind c p.0 p.1) (enumerate_from n rows) ≡ []
    → length (flat_map (λ fields. map value_of fields) rows) ≡ length rows * c
unfolding row_faults
rows-length kind c n [] e = omega arith
rows-length kind c n (fields ∷ rest) e =
    let both = append-none (row_faults kind c n fields) _ e in
    let parts = append-none (shape_faults kind c n (length fields)) _ both.0 in
    let same = shape-same kind c n (length fields) parts.0 in
    let more = rows-length kind c (n + 1) rest both.1 in
    let a = length-append (map value_of fields) (flat_map (λ fields. map value_of fields) rest) in
    let b = length-map fields value_of in
    omega arith

rows-limit : (kind : TextKind) (c n : ℕ) (rows : List (List (List ℕ))) → flat_map (λ p. row_faults kind c p.0 p.1) (enumerate_from n rows) ≡ []
    → All (λ z. unsigned_abs z ≤ limit_of kind) (flat_map (λ fields. map value_of fields) rows)
unfolding row_faults
rows-limit kind c n [] e = All-nil (λ z. unsigned_abs z ≤ limit_of kind)
rows-limit kind c n (fields ∷ rest) e =
    let both = append-none (row_faults kind c n fields) _ e in
    let parts = append-none (shape_faults kind c n (length fields)) _ both.0 in
    All-append (λ z. unsigned_abs z ≤ limit_of kind) (map value_of fields) _ (fields-limit (limit_of kind) n 1 fields parts.1) (rows-limit kind c (n + 1) rest both.1)

-- rows without a fault have as many values as rows times columns
pub values-length : (kind : TextKind) (rows : List (List (List ℕ))) → rows_faults kind rows ≡ [] → length (values_of rows) ≡ length rows * width rows
unfolding rows_faults values_of
values-length kind rows e = rows-length kind (width rows) 1 rows e

-- the values of rows without a fault are within the limit of their kind
pub values-limit : (kind : TextKind) (rows : List (List (List ℕ))) → rows_faults kind rows ≡ [] → All (λ z. unsigned_abs z ≤ limit_of kind) (values_of rows)
unfolding rows_faults values_of
values-limit kind rows e = rows-limit kind (width rows) 1 rows e
