-- How the records that a reader has left follow from a read. Each read that finds a record leaves less than there was,
-- so more reads than the text has bytes and its end don't change what is read.
use Rattle.std.proofs.Common.{◌≡◌, ℕ, zero, suc, ◌+◌, ◌<◌, ◌≤◌, Bool, true, false, if◌then◌else◌, List, [], ◌∷◌, ◌++◌, length, Option, Some, None, refl, sym, ap, ◌∙◌, arith}
use Rattle.std.proofs.lemmas.List.{length-append}
use Rattle.std.specs.Prelude.{IsSome, is_some, unwrap_or, ◌==◌, ◌||◌}
use Rattle.std.specs.Borrow.{Bor}
use Rattle.csv.specs.Machine.{Read, ends_at_end, field_after, fields_after, in_field, is_end, next_record, start_field, start_record, step}
use Rattle.csv.specs.Reading.{Reached, ReadRecord, ReadsOn, default_config, records, records_from, records_next, strip_bom}
use Rattle.csv.specs.declared.parser.Action.{Action}
use Rattle.csv.specs.declared.parser.Action.TheVariants as act
use Rattle.csv.specs.declared.parser.State.{State}
use Rattle.csv.specs.declared.parser.State.TheVariants as st
use Rattle.csv.proofs.ReadFacts.{rows-end, rows-more}
use Rattle.grid_text.specs.Faults.{width}
use Rattle.grid_text.specs.Reader.{IsReading, TextReader, left_of, records_left, rest_of}
use Rattle.grid_text.specs.Records.{records_of}

-- a byte that ends a record leaves a state in which the end of the text ends none
abbrev EndsWell : State × Action → Type 0
EndsWell p = is_end p.1 ≡ true → ends_at_end p.0 ≡ false

either : (test : Bool) (x y : State × Action) → EndsWell x → EndsWell y → EndsWell (if test then x else y)
either true x y f g = f
either false x y f g = g

after-ends : (cr : Bool) → ends_at_end (if cr then st.AfterCr else st.StartRecord) ≡ false
after-ends true = refl
after-ends false = refl

in-field-ends : (c : ℕ) → EndsWell (in_field default_config c)
in-field-ends c =
    either (c == 44) _ _ (λ e. cc e) (either ((c == 13) || (c == 10)) _ _ (λ e. after-ends (c == 13)) (λ e. cc e))

start-field-ends : (c : ℕ) → EndsWell (start_field default_config c)
start-field-ends c = either (c == 34) _ _ (λ e. cc e) (in-field-ends c)

start-record-ends : (c : ℕ) → EndsWell (start_record default_config c)
start-record-ends c = either ((c == 13) || (c == 10)) _ _ (λ e. cc e) (start-field-ends c)

step-ends : (s : State) (c : ℕ) → EndsWell (step default_config s c)
step-ends st.StartRecord c = start-record-ends c
step-ends st.StartField c = start-field-ends c
step-ends st.InField c = in-field-ends c
step-ends st.InQuoted c = either (c == 34) _ _ (λ e. cc e) (λ e. cc e)
step-ends st.AfterQuote c = either (c == 34) _ _ (λ e. cc e) (in-field-ends c)
step-ends st.InEscape c = λ e. cc e
step-ends st.InComment c = either (c == 10) _ _ (λ e. cc e) (λ e. cc e)
step-ends st.AfterCr c = either (c == 10) _ _ (λ e. cc e) (start-record-ends c)

-- the bytes, and one more where the end of the text ends a record
abbrev pub bound : State → List ℕ → ℕ
bound s xs = length xs + (if ends_at_end s then 1 else 0)

few : (b : Bool) → (if b then 1 else 0) ≤ 1
few true = omega arith
few false = omega arith

-- the end of the text
at-end : (b : Bool) (fields : List (List ℕ)) (p : Read)
    → (if b then Some (fields, st.StartRecord, []) else None) ≡ Some p → bound p.1 p.2 < length {A = ℕ} [] + (if b then 1 else 0)
at-end true fields p e =
    let q : (fields, st.StartRecord, []) ≡ p = cc in
    rw (← q) (omega arith)
at-end false fields p e = cc e

-- a read leaves less than there was
pub next-less : (s : State) (fields : List (List ℕ)) (field xs : List ℕ) (p : Read)
    → next_record default_config s fields field xs ≡ Some p → bound p.1 p.2 < bound s xs
unfolding next_record
next-less s fields field [] p e = at-end (ends_at_end s) _ p e
next-less s fields field (c ∷ rest) p e =
    by (is_end (step default_config s c).1) refl e
    (next-less (step default_config s c).0 (fields_after (step default_config s c).1 fields field) (field_after (step default_config s c).1 c field) rest p)
  where
    by : (b : Bool) → is_end (step default_config s c).1 ≡ b
        → (if b then Some (fields_after (step default_config s c).1 fields field, (step default_config s c).0, rest)
        else next_record default_config (step default_config s c).0 (fields_after (step default_config s c).1 fields field) (field_after (step default_config s c).1 c field) rest) ≡ Some p
        → (next_record default_config (step default_config s c).0 (fields_after (step default_config s c).1 fields field) (field_after (step default_config s c).1 c field) rest ≡ Some p
        → bound p.1 p.2 < bound (step default_config s c).0 rest)
        → bound p.1 p.2 < bound s (c ∷ rest)
    by true t h more =
        let ends = step-ends s c t in
        let q : (fields_after (step default_config s c).1 fields field, (step default_config s c).0, rest) ≡ p = cc in
        rw (← q) (rw ends (omega arith))
    by false t h more =
        let less = more h in
        let most = few (ends_at_end (step default_config s c).0) in
        omega arith

-- more room than the text has to give makes no difference
pub enough : (m n : ℕ) (s : State) (xs : List ℕ) → bound s xs < m → bound s xs < n
    → records_from default_config m s xs ≡ records_from default_config n s xs
unfolding records_from
enough zero n s xs a b = absurd (omega arith)
enough (suc m) zero s xs a b = absurd (omega arith)
enough (suc m) (suc n) s xs a b = by (next_record default_config s [] [] xs) refl (enough m n)
  where
    by : (o : Option Read) → next_record default_config s [] [] xs ≡ o
        → ((s2 : State) (ys : List ℕ) → bound s2 ys < m → bound s2 ys < n → records_from default_config m s2 ys ≡ records_from default_config n s2 ys)
        → records_next (records_from default_config m) o ≡ records_next (records_from default_config n) o
    by None e more = refl
    by (Some p) e more =
        let less = next-less s [] [] xs p e in
        ap (λ (rest : List (List (List ℕ))). p.0 ∷ rest) (more p.1 p.2 (omega arith) (omega arith))

bounded : (s : State) (xs : List ℕ) → bound s xs < length xs + 2
bounded s xs = let most = few (ends_at_end s) in omega arith

from-some : (m : ℕ) (s : State) (xs : List ℕ) (p : Read) → next_record default_config s [] [] xs ≡ Some p
    → records_from default_config (suc m) s xs ≡ p.0 ∷ records_from default_config m p.1 p.2
unfolding records_from
from-some m s xs p e = rw e refl

from-none : (m : ℕ) (s : State) (xs : List ℕ) → next_record default_config s [] [] xs ≡ None
    → records_from default_config (suc m) s xs ≡ []
unfolding records_from
from-none m s xs e = rw e refl

-- a record that was read is the first of those that were left
pub left-some : (s : State) (xs : List ℕ) (p : Read) → next_record default_config s [] [] xs ≡ Some p
    → records_left s xs ≡ p.0 ∷ records_left p.1 p.2
left-some s xs p e =
    let here = bounded s xs in
    let there = bounded p.1 p.2 in
    let less = next-less s [] [] xs p e in
    enough (length xs + 2) (suc (length xs + 2)) s xs here (omega arith) ∙ from-some (length xs + 2) s xs p e
    ∙ ap (λ (rest : List (List (List ℕ))). p.0 ∷ rest) (enough (length xs + 2) (length p.2 + 2) p.1 p.2 (omega arith) there)

-- where a read finds no record, none is left
pub left-none : (s : State) (xs : List ℕ) → next_record default_config s [] [] xs ≡ None → records_left s xs ≡ []
left-none s xs e =
    let here = bounded s xs in
    enough (length xs + 2) (suc (length xs + 2)) s xs here (omega arith) ∙ from-none (length xs + 2) s xs e

-- a reader at the start has all records left
pub left-all : (xs : List ℕ) → records_left st.StartRecord xs ≡ records default_config xs
left-all xs = enough (length xs + 2) (length xs + 1) st.StartRecord xs (omega arith) (omega arith)

some-of : {A : Type 0} (o : Option A) → IsSome o → (x : A) × (o ≡ Some x)
some-of (Some x) h = (x, refl)
some-of None h = cc h

some-next : (s s2 : State) (y z : List ℕ) (p : Read) (fields : List (List ℕ)) → next_record default_config s [] [] y ≡ Some p
    → fields ≡ p.0 → p.1 ≡ s2 → p.2 ≡ z → records_left s y ≡ fields ∷ records_left s2 z
some-next s s2 y z p fields e a b c = rw (a, ← b, ← c) (left-some s y p e)

-- a read that found a record
pub read-some : (a b : TextReader) (fields : List (List ℕ)) → IsReading a
    → ReadRecord (λ (text : Bor (List ℕ)). Some text.now) a b true fields → ReadsOn a b
    → IsReading b × (left_of a ≡ fields ∷ left_of b)
unfolding Reached
read-some a b fields h r on =
    let y = some-of (rest_of a) h.known in
    let m = rows-more (λ (text : Bor (List ℕ)). Some text.now) a b fields default_config a.state y.0 y.0 [] h.config y.1 (refl, refl) r in
    let e = some-next a.state b.state y.0 m.0 m.2.0 fields m.2.1 m.2.2 m.2.3.0 m.2.3.1 in (
      record { config = on.0 ∙ h.config; trim = on.1 ∙ h.trim; flexible = on.2 ∙ h.flexible; ready = (on.4 h.ready).0; known = ap (λ (o : Option (List ℕ)). is_some o) m.1 },
      ap (λ (o : Option (List ℕ)). records_left a.state (unwrap_or o [])) y.1
          ∙ (e ∙ ap (λ (o : Option (List ℕ)). fields ∷ records_left b.state (unwrap_or o [])) (sym m.1)),
    )

-- a read that found none
pub read-none : (a b : TextReader) (fields : List (List ℕ)) → IsReading a
    → ReadRecord (λ (text : Bor (List ℕ)). Some text.now) a b false fields → left_of a ≡ []
read-none a b fields h r =
    let y = some-of (rest_of a) h.known in
    ap (λ (o : Option (List ℕ)). records_left a.state (unwrap_or o [])) y.1
    ∙ left-none a.state y.0 (rows-end (λ (text : Bor (List ℕ)). Some text.now) a b fields default_config y.0 h.config y.1 r)

-- a record has a field
record-full : (b : Bool) (fields : List (List ℕ)) (field : List ℕ) (a : Action) → is_end a ≡ true → 0 < length (fields_after a fields field)
record-full b fields field act.EndRecord e = let n = length-append fields (field ∷ []) in omega arith
record-full b fields field act.Skip e = cc e
record-full b fields field act.Copy e = cc e
record-full b fields field act.EndField e = cc e

last-full : (b : Bool) (fields : List (List ℕ)) (field : List ℕ) (p : Read)
    → (if b then Some (fields ++ (field ∷ []), st.StartRecord, []) else None) ≡ Some p → 0 < length p.0
last-full true fields field p e =
    let q : (fields ++ (field ∷ []), st.StartRecord, []) ≡ p = cc in
    let n = length-append fields (field ∷ []) in
    rw (← q) (omega arith)
last-full false fields field p e = cc e

next-full : (s : State) (fields : List (List ℕ)) (field xs : List ℕ) (p : Read)
    → next_record default_config s fields field xs ≡ Some p → 0 < length p.0
unfolding next_record
next-full s fields field [] p e = last-full (ends_at_end s) fields field p e
next-full s fields field (c ∷ rest) p e =
    by (is_end (step default_config s c).1) refl e
    (next-full (step default_config s c).0 (fields_after (step default_config s c).1 fields field) (field_after (step default_config s c).1 c field) rest p)
  where
    by : (b : Bool) → is_end (step default_config s c).1 ≡ b
        → (if b then Some (fields_after (step default_config s c).1 fields field, (step default_config s c).0, rest)
        else next_record default_config (step default_config s c).0 (fields_after (step default_config s c).1 fields field) (field_after (step default_config s c).1 c field) rest) ≡ Some p
        → (next_record default_config (step default_config s c).0 (fields_after (step default_config s c).1 fields field) (field_after (step default_config s c).1 c field) rest ≡ Some p
        → 0 < length p.0)
        → 0 < length p.0
    by true t h more =
        let q : (fields_after (step default_config s c).1 fields field, (step default_config s c).0, rest) ≡ p = cc in
        let full = record-full true fields field (step default_config s c).1 t in
        rw (← q) full
    by false t h more = more h

-- so the first record of a text that has one has a field
pub width-full : (xs : List ℕ) → 0 < length (records_of xs) → 0 < width (records_of xs)
unfolding records_from
width-full xs h = let e : length (strip_bom xs) + 1 ≡ suc (length (strip_bom xs)) = omega arith in first (length (strip_bom xs)) (strip_bom xs) e h
  where
    at : (m : ℕ) (o : Option Read) (ys : List ℕ) → next_record default_config st.StartRecord [] [] ys ≡ o
        → 0 < length (records_next (records_from default_config m) o) → 0 < width (records_next (records_from default_config m) o)
    at m None ys e h = absurd (omega arith)
    at m (Some p) ys e h = next-full st.StartRecord [] [] ys p e

    first : (m : ℕ) (ys : List ℕ) → length ys + 1 ≡ suc m → 0 < length (records default_config ys) → 0 < width (records default_config ys)
    first m ys e h = rw e (at m (next_record default_config st.StartRecord [] [] ys) ys refl (rw e at h))
