-- One more row behind rows that are kept: these have no fault, so the first fault of all is the first of the new row.
use Rattle.std.proofs.Common.{◌≡◌, ℕ, ◌+◌, ◌<◌, true, false, ℤ, List, [], ◌∷◌, ◌++◌, length, map, Some, refl, sym, ap, ◌∙◌, arith}
use Rattle.std.specs.Prelude.{slice_get, if◌then◌else◌, ◌==◌}
use Rattle.std.specs.List.{flat_map}
use Rattle.std.proofs.lemmas.Bool.Decides.{nat_tests}
use Rattle.std.proofs.lemmas.List.{append-nil, length-append}
use Rattle.std.proofs.lemmas.List.Concat.{flat_map-append}
use Rattle.grid_text.specs.declared.fault.TextFault.{TextFault}
use Rattle.grid_text.specs.declared.fault.TextFault.TheVariants as fault
use Rattle.grid_text.specs.declared.rows.Rows.{Rows}
use Rattle.grid_text.specs.declared.rows.TextKind.{TextKind}
use Rattle.grid_text.specs.Faults.{field_faults, limit_of, numbered, row_faults, rows_faults, shape_faults, value_of, values_of, width}
use Rattle.grid_text.specs.Kept.{AreKept}
use Rattle.grid_text.specs.Reading.{text_faults}
use Rattle.grid_text.proofs.ListFacts.{first-append, numbered-front, numbered-push}
use Rattle.grid_text.proofs.FaultFacts.{shape-same}

-- how wide the rows are with one more
pub cols-push : (kind : TextKind) (before : List (List (List ℕ))) (fields : List (List ℕ)) (old : Rows) → AreKept kind before old
    → (if old.rows == 0 then length fields else old.cols) ≡ width (before ++ fields ∷ [])
cols-push kind [] fields old h = rw h.count refl
cols-push kind (r ∷ rest) fields old h =
    let n = h.count in
    let t : (old.rows == 0) ≡ false = grind (arith, nat_tests) in
    rw t h.cols

none-wider : (kind : TextKind) (rows : List (List (List ℕ))) (fields : List (List ℕ)) → numbered (row_faults kind (width rows)) rows ≡ []
    → numbered (row_faults kind (width (rows ++ fields ∷ []))) rows ≡ []
none-wider kind [] fields e = refl
none-wider kind (r ∷ rest) fields e = e

-- behind rows without a fault, the faults of all are those of the new row
pub faults-push : (kind : TextKind) (rows : List (List (List ℕ))) (fields : List (List ℕ)) → rows_faults kind rows ≡ []
    → rows_faults kind (rows ++ fields ∷ []) ≡ row_faults kind (width (rows ++ fields ∷ [])) (length rows + 1) fields
unfolding rows_faults
faults-push kind rows fields e =
    numbered-push (row_faults kind (width (rows ++ fields ∷ []))) rows fields (none-wider kind rows fields e)

-- the values of a new row stand behind those of the others
pub values-push : (rows : List (List (List ℕ))) (fields : List (List ℕ)) → values_of (rows ++ fields ∷ []) ≡ values_of rows ++ map value_of fields
unfolding values_of
values-push rows fields =
    flat_map-append (λ fields. map value_of fields) rows (fields ∷ []) ∙ ap (λ (rest : List ℤ). flat_map (λ fields. map value_of fields) rows ++ rest) (append-nil (map value_of fields))

-- a fault of the shape, and one of a field
pub shape-first : (kind : TextKind) (c row : ℕ) (fields : List (List ℕ)) (fault : TextFault)
    → Some fault ≡ slice_get (shape_faults kind c row (length fields)) 0 → slice_get (row_faults kind c row fields) 0 ≡ Some fault
unfolding row_faults
shape-first kind c row fields fault e = first-append (shape_faults kind c row (length fields)) _ fault (sym e)

-- where a row's shape has no fault, the first fault of its fields is its first
pub fields-first : (kind : TextKind) (c row : ℕ) (fields : List (List ℕ)) (fault : TextFault) → shape_faults kind c row (length fields) ≡ []
    → slice_get (numbered (field_faults (limit_of kind) row) fields) 0 ≡ Some fault → slice_get (row_faults kind c row fields) 0 ≡ Some fault
unfolding row_faults
fields-first kind c row fields fault n e = rw n e

-- a row whose shape and whose fields have no fault has none
pub row-none : (kind : TextKind) (c row : ℕ) (fields : List (List ℕ)) → shape_faults kind c row (length fields) ≡ []
    → numbered (field_faults (limit_of kind) row) fields ≡ [] → row_faults kind c row fields ≡ []
unfolding row_faults
row-none kind c row fields n e = rw (n, e) refl

-- the new row is the first with a fault
pub push-fault : (kind : TextKind) (before : List (List (List ℕ))) (fields : List (List ℕ)) (c row : ℕ) (fault : TextFault)
    → rows_faults kind before ≡ [] → c ≡ width (before ++ fields ∷ []) → row ≡ length before + 1
    → slice_get (row_faults kind c row fields) 0 ≡ Some fault → slice_get (rows_faults kind (before ++ fields ∷ [])) 0 ≡ Some fault
push-fault kind before fields c row fault none w n e = rw (faults-push kind before fields none, ← w, ← n) e

-- the new row has no fault
pub push-kept : (kind : TextKind) (before : List (List (List ℕ))) (fields : List (List ℕ)) (old new : Rows) (c row : ℕ)
    → AreKept kind before old → c ≡ width (before ++ fields ∷ []) → row ≡ length before + 1
    → shape_faults kind c row (length fields) ≡ [] → numbered (field_faults (limit_of kind) row) fields ≡ []
    → new.rows ≡ row → new.cols ≡ c → new.values.items ≡ old.values.items ++ map value_of fields
    → AreKept kind (before ++ fields ∷ []) new
push-kept kind before fields old new c row h w n shape faultless a b v =
    let len : length (before ++ fields ∷ []) ≡ row = length-append before (fields ∷ []) ∙ sym n in
    let same = shape-same kind c row (length fields) shape in
    record {
      count = a ∙ sym len;
      cols = b ∙ w;
      values = v ∙ (ap (λ (front : List ℤ). front ++ map value_of fields) h.values ∙ sym (values-push before fields));
      faultless = faults-push kind before fields h.faultless ∙ rw (← w, ← n) (row-none kind c row fields shape faultless);
      shape = λ some. rw (← w, len) (rw same at shape);
    }

-- a text with a row has the faults of its rows
pub text-rows : (kind : TextKind) (rows : List (List (List ℕ))) → 0 < length rows → text_faults kind rows ≡ rows_faults kind rows
text-rows kind rows h = let t : (length rows == 0) ≡ false = grind (arith, nat_tests) in rw t refl

-- the first fault of a text without a row is that it is empty
pub text-empty : (kind : TextKind) (rows : List (List (List ℕ))) → length rows ≡ 0 → slice_get (text_faults kind rows) 0 ≡ Some fault.Empty
text-empty kind rows h = let t : (length rows == 0) ≡ true = grind (arith, nat_tests) in rw t refl

-- the first fault of the front of a text is the first of all of it
rows-front : (kind : TextKind) (rows more : List (List (List ℕ))) (fault : TextFault)
    → slice_get (rows_faults kind rows) 0 ≡ Some fault → (slice_get (rows_faults kind (rows ++ more)) 0 ≡ Some fault) × (0 < length (rows ++ more))
unfolding rows_faults
rows-front kind [] more fault e = cc e
rows-front kind (r ∷ rest) more fault e = (numbered-front (row_faults kind (length r)) (r ∷ rest) more fault e, omega arith)

-- the first fault of the rows at the front of a text is the first of all of it
pub text-front : (kind : TextKind) (rows more : List (List (List ℕ))) (fault : TextFault)
    → slice_get (rows_faults kind rows) 0 ≡ Some fault → slice_get (text_faults kind (rows ++ more)) 0 ≡ Some fault
text-front kind rows more fault e =
    let f = rows-front kind rows more fault e in
    rw (text-rows kind (rows ++ more) f.1) f.0

-- nothing is kept at first
pub kept-none : (kind : TextKind) (new : Rows) → new.rows ≡ 0 → new.cols ≡ 0 → new.values.items ≡ [] → AreKept kind [] new
unfolding rows_faults values_of
kept-none kind new a b v = record { count = a; cols = b; values = v; faultless = refl; shape = λ some. absurd (omega arith) }
