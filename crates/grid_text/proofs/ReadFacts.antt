-- What rows without a fault make: the answer is the first fault where there is one, and else what the kept rows make.
use Rattle.std.proofs.Common.{◌≡◌, ℕ, ◌+◌, ◌*◌, ◌<◌, ◌≤◌, true, false, List, [], ◌∷◌, length, Some, None, Ok, Err, inl, inr, refl, ap, arith}
use Rattle.std.specs.Prelude.{◌⊎◌, slice_get, nat_lt}
use Rattle.std.specs.List.{All}
use Rattle.std.proofs.lemmas.Bool.Decides.{nat_tests}
use Rattle.stencil_def.specs.Limits.{IsValue, IsWeight}
use Rattle.stencil_def.specs.Plane.{plane_of}
use Rattle.stencil_def.specs.Square.{square_of}
use Rattle.grid_text.specs.declared.fault.TextFault.{TextFault}
use Rattle.grid_text.specs.declared.fault.TextFault.TheVariants as fault
use Rattle.grid_text.specs.declared.rows.Rows.{Rows}
use Rattle.grid_text.specs.declared.rows.TextKind.{TextKind}
use Rattle.grid_text.specs.declared.rows.TextKind.TheVariants.{Grid, Weights}
use Rattle.grid_text.specs.Faults.{answer, width}
use Rattle.grid_text.specs.Kept.{AreKept}
use Rattle.grid_text.specs.Reading.{grid_of, text_faults, weights_of}
use Rattle.grid_text.specs.Records.{records_of}
use Rattle.grid_text.proofs.ListFacts.{first-append}
use Rattle.grid_text.proofs.FaultFacts.{grid-small, values-length, values-limit, weights-small}
use Rattle.grid_text.proofs.RecordsLeft.{width-full}
use Rattle.grid_text.proofs.RowFacts.{text-empty}

-- the first fault is the answer
pub answer-first : {A : Type 0} (faults : List TextFault) (value : A) (fault : TextFault) → slice_get faults 0 ≡ Some fault → answer faults value ≡ Err fault
answer-first [] value fault e = cc e
answer-first (f ∷ rest) value fault e = let same : f ≡ fault = cc in ap Err same

-- a text without a fault has a row
some-row : (kind : TextKind) (rows : List (List (List ℕ))) → text_faults kind rows ≡ [] → 0 < length rows
some-row kind [] e = let first = text-empty kind [] refl in absurd (no e first)
  where
    no : text_faults kind [] ≡ [] → slice_get (text_faults kind []) 0 ≡ Some fault.Empty → ⊥
    no e first = let n : slice_get (text_faults kind []) 0 ≡ None = ap (λ (faults : List TextFault). slice_get faults 0) e in cc
some-row kind (r ∷ rest) e = omega arith

-- a text whose rows have a fault as a grid reads as the first of them
pub grid-fault : (text : List ℕ) (fault : TextFault) → slice_get (text_faults Grid (records_of text)) 0 ≡ Some fault → grid_of text ≡ Err fault
unfolding grid_of
grid-fault text fault e = answer-first _ _ fault e

-- a text whose rows have a fault as weights reads as the first of them
pub weights-fault : (text : List ℕ) (fault : TextFault) → slice_get (text_faults Weights (records_of text)) 0 ≡ Some fault → weights_of text ≡ Err fault
unfolding weights_of
weights-fault text fault e = answer-first _ _ fault (first-append _ _ fault e)

-- the limits of a grid
pub grid-limits : (text : List ℕ) (kept : Rows) → text_faults Grid (records_of text) ≡ [] → AreKept Grid (records_of text) kept
    → (1 ≤ kept.rows) × (kept.rows ≤ 4096) × (1 ≤ kept.cols) × (kept.cols ≤ 4096) × (kept.rows * kept.cols ≤ 1000000)
grid-limits text kept e h =
    let some = some-row Grid (records_of text) e in
    let full = width-full text some in
    let small = grid-small _ _ _ (h.shape some) in
    let rows = h.count in
    let cols = h.cols in
    (omega arith, omega arith, omega arith, omega arith, rw (rows, cols) small.2)

-- kept rows have as many values as rows times columns
pub values-count : (kind : TextKind) (text : List ℕ) (kept : Rows) → AreKept kind (records_of text) kept → length kept.values.items ≡ kept.rows * kept.cols
values-count kind text kept h =
    let n = values-length kind (records_of text) h.faultless in
    rw (h.values, h.count, h.cols) n

-- the kept values of a grid are in the range of a cell
pub grid-values : (text : List ℕ) (kept : Rows) → AreKept Grid (records_of text) kept → All IsValue kept.values.items
grid-values text kept h = rw h.values (values-limit Grid (records_of text) h.faultless)

-- the kept values of weights are in the range of a weight
pub weights-values : (text : List ℕ) (kept : Rows) → AreKept Weights (records_of text) kept → All IsWeight kept.values.items
weights-values text kept h = rw h.values (values-limit Weights (records_of text) h.faultless)

-- a text without a fault reads as the grid of the kept rows
pub grid-ok : (text : List ℕ) (kept : Rows) → text_faults Grid (records_of text) ≡ [] → AreKept Grid (records_of text) kept
    → grid_of text ≡ Ok (plane_of kept.rows kept.cols kept.values.items)
unfolding grid_of
grid-ok text kept e h = rw (e, h.count, h.cols, h.values) refl

-- weights with too few rows, and with enough
pub weights-missing : (text : List ℕ) (kept : Rows) → text_faults Weights (records_of text) ≡ [] → AreKept Weights (records_of text) kept
    → kept.rows < kept.cols → weights_of text ≡ Err (fault.BadWeights (kept.rows + 1))
unfolding weights_of
weights-missing text kept e h few =
    let rows = h.count in
    let cols = h.cols in
    let t : nat_lt (length (records_of text)) (width (records_of text)) ≡ true = grind (arith, nat_tests) in
    rw (e, t, rows) refl

-- a text without a fault, with no fewer rows than columns, reads as the weights of the kept values
pub weights-ok : (text : List ℕ) (kept : Rows) → text_faults Weights (records_of text) ≡ [] → AreKept Weights (records_of text) kept
    → kept.cols ≤ kept.rows → weights_of text ≡ Ok (square_of kept.values.items)
unfolding weights_of
weights-ok text kept e h few =
    let rows = h.count in
    let cols = h.cols in
    let t : nat_lt (length (records_of text)) (width (records_of text)) ≡ false = grind (arith, nat_tests) in
    rw (e, t, h.values) refl

-- 3 or 5 rows of as many weights
square-size : (rows cols n : ℕ) → (cols ≡ 3) ⊎ (cols ≡ 5) → rows ≤ cols → cols ≤ rows → n ≡ rows * cols → (n ≡ 9) ⊎ (n ≡ 25)
square-size rows cols n (inl t) a b e = let r : rows ≡ 3 = omega arith in inl (rw (e, r, t) refl)
square-size rows cols n (inr t) a b e = let r : rows ≡ 5 = omega arith in inr (rw (e, r, t) refl)

-- weights without a fault, with no fewer rows than columns, are 9 or 25
pub weights-count : (text : List ℕ) (kept : Rows) → text_faults Weights (records_of text) ≡ [] → AreKept Weights (records_of text) kept
    → kept.cols ≤ kept.rows → (length kept.values.items ≡ 9) ⊎ (length kept.values.items ≡ 25)
weights-count text kept e h few =
    let some = some-row Weights (records_of text) e in
    let small = rw (← h.count, ← h.cols) at (weights-small (width (records_of text)) (length (records_of text)) (width (records_of text)) (h.shape some)) in
    square-size kept.rows kept.cols (length kept.values.items) small.0 small.1 few (values-count Weights text kept h)
