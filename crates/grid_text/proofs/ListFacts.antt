-- Fields of a record, and lists of faults: the first of a list stays the first with more behind it, and where it is
-- empty the first is that of what stands behind it.
use Rattle.std.proofs.Common.{◌≡◌, ℕ, zero, suc, ◌+◌, ◌<◌, ◌≤◌, List, [], ◌∷◌, ◌++◌, length, take, drop, Some, None, refl, sym, ap, ◌∙◌, arith, append_assoc}
use Rattle.std.specs.Prelude.{slice_get, Result, Ok, Err, OnOk}
use Rattle.std.specs.List.{enumerate_from, flat_map}
use Rattle.std.proofs.lemmas.List.{append-nil, take_more, length-take-le}
use Rattle.std.proofs.lemmas.List.Concat.{flat_map-append}
use Rattle.csv.specs.Records.{field_at}
use Rattle.csv.proofs.RecordFacts.{field-get}
use Rattle.grid_text.specs.declared.fault.TextFault.{TextFault}
use Rattle.std.proofs.Common.{ℤ, map}
use Rattle.std.proofs.lemmas.List.{map-append, take-append-drop}
use Rattle.grid_text.specs.Faults.{field_faults, numbered, value_of}

-- a field that is there
pub field-within : (fields : List (List ℕ)) (i : ℕ) (x : List ℕ) → Some x ≡ field_at fields i → i < length fields
unfolding field_at
field-within [] i x e = cc e
field-within (f ∷ fs) zero x e = omega arith
field-within (f ∷ fs) (suc i) x e = let n = field-within fs i x e in omega arith

-- the fields up to one that is there are those before it, and then it
pub field-taken : (fields : List (List ℕ)) (i : ℕ) (x : List ℕ) → Some x ≡ field_at fields i → take (i + 1) fields ≡ take i fields ++ x ∷ []
field-taken fields i x e =
    let within = field-within fields i x e in
    take_more fields i [] within ∙ ap (λ (y : List ℕ). take i fields ++ y ∷ []) (field-get fields i x (sym e))

-- where there is none, all are taken
pub field-past : (fields : List (List ℕ)) (i : ℕ) → None ≡ field_at fields i → length fields ≤ i
unfolding field_at
field-past [] i e = omega arith
field-past (f ∷ fs) zero e = cc e
field-past (f ∷ fs) (suc i) e = let n = field-past fs i e in omega arith

-- where two lists one behind the other are empty, both are
pub append-none : {A : Type 0} (xs ys : List A) → xs ++ ys ≡ [] → (xs ≡ []) × (ys ≡ [])
append-none [] ys e = (refl, e)
append-none (x ∷ xs) ys e = cc e

-- a list without a first element is empty
pub first-none : {A : Type 0} (xs : List A) → slice_get xs 0 ≡ None → xs ≡ []
first-none [] e = refl
first-none (x ∷ xs) e = cc e

-- the first element of a list is also the first with another list behind it
pub first-append : {A : Type 0} (xs ys : List A) (x : A) → slice_get xs 0 ≡ Some x → slice_get (xs ++ ys) 0 ≡ Some x
first-append [] ys x e = cc e
first-append (y ∷ xs) ys x e = e

-- the items behind others have their numbers from there on
pub enumerate_from-append : {A : Type 0} (n : ℕ) (xs ys : List A) → enumerate_from n (xs ++ ys) ≡ enumerate_from n xs ++ enumerate_from (n + length xs) ys
enumerate_from-append {A} n [] ys = let e : n + 0 ≡ n = omega arith in rw e refl
enumerate_from-append {A} n (x ∷ xs) ys =
    let e : n + suc (length xs) ≡ n + 1 + length xs = omega arith in
    rw e (ap (λ (rest : List (ℕ × A)). (n, x) ∷ rest) (enumerate_from-append (n + 1) xs ys))

-- the faults of items, and of more behind them: first those of the ones, then those of the others, counted on
pub numbered-append : {A : Type 0} (faults : ℕ → A → List TextFault) (xs ys : List A)
    → numbered faults (xs ++ ys) ≡ numbered faults xs ++ flat_map (λ p. faults p.0 p.1) (enumerate_from (1 + length xs) ys)
numbered-append faults xs ys =
    ap (flat_map (λ p. faults p.0 p.1)) (enumerate_from-append 1 xs ys)
    ∙ flat_map-append (λ p. faults p.0 p.1) (enumerate_from 1 xs) (enumerate_from (1 + length xs) ys)

-- one more item behind items without a fault
pub numbered-push : {A : Type 0} (faults : ℕ → A → List TextFault) (xs : List A) (x : A) → numbered faults xs ≡ []
    → numbered faults (xs ++ x ∷ []) ≡ faults (length xs + 1) x
numbered-push faults xs x e =
    let n : 1 + length xs ≡ length xs + 1 = omega arith in
    numbered-append faults xs (x ∷ []) ∙ rw (e, n) (append-nil (faults (length xs + 1) x))

-- the first fault of a front is the first of all
pub numbered-front : {A : Type 0} (faults : ℕ → A → List TextFault) (xs ys : List A) (fault : TextFault)
    → slice_get (numbered faults xs) 0 ≡ Some fault → slice_get (numbered faults (xs ++ ys)) 0 ≡ Some fault
numbered-front faults xs ys fault e = rw (numbered-append faults xs ys) (first-append (numbered faults xs) _ fault e)

-- the field at a place is the first with a fault
pub field-first : (limit row i : ℕ) (fields : List (List ℕ)) (field : List ℕ) (fault : TextFault)
    → numbered (field_faults limit row) (take i fields) ≡ [] → Some field ≡ field_at fields i → field_faults limit row (i + 1) field ≡ fault ∷ []
    → slice_get (numbered (field_faults limit row) fields) 0 ≡ Some fault
field-first limit row i fields field fault none e f =
    let within = field-within fields i field e in
    let len : length (take i fields) ≡ i = length-take-le i fields (omega arith) in
    let here : numbered (field_faults limit row) (take (i + 1) fields) ≡ fault ∷ [] =
    rw (field-taken fields i field e) (numbered-push (field_faults limit row) (take i fields) field none ∙ rw len f) in
    let first : slice_get (numbered (field_faults limit row) (take (i + 1) fields)) 0 ≡ Some fault = rw here refl in
    rw take-append-drop at (numbered-front (field_faults limit row) (take (i + 1) fields) (drop (i + 1) fields) fault first)

-- the field at a place has no fault either
pub field-none-more : (limit row i : ℕ) (fields : List (List ℕ)) (field : List ℕ)
    → numbered (field_faults limit row) (take i fields) ≡ [] → Some field ≡ field_at fields i → field_faults limit row (i + 1) field ≡ []
    → numbered (field_faults limit row) (take (i + 1) fields) ≡ []
field-none-more limit row i fields field none e f =
    let within = field-within fields i field e in
    let len : length (take i fields) ≡ i = length-take-le i fields (omega arith) in
    rw (field-taken fields i field e) (numbered-push (field_faults limit row) (take i fields) field none ∙ rw len f)

-- the value of the next field, pushed behind those of the first i, makes those of the first i + 1
pub values-more : (old now new : List ℤ) (v : ℤ) (i : ℕ) (fields : List (List ℕ)) (field : List ℕ)
    → now ≡ old ++ map value_of (take i fields) → Some field ≡ field_at fields i → v ≡ value_of field → new ≡ now ++ v ∷ []
    → new ≡ old ++ map value_of (take (i + 1) fields)
values-more old now new v i fields field a e b n =
    let taken : map value_of (take (i + 1) fields) ≡ map value_of (take i fields) ++ v ∷ [] =
    rw (field-taken fields i field e, b) (map-append value_of (take i fields) (field ∷ [])) in
    n ∙ (ap (λ (front : List ℤ). front ++ v ∷ []) a ∙ (append_assoc old (map value_of (take i fields)) (v ∷ []) ∙ ap (λ (back : List ℤ). old ++ back) (sym taken)))

-- two facts of a success
pub on_ok_both : {T E A B C : Type 0} (r : Result T E) → (A → B → C) → OnOk r A → OnOk r B → OnOk r C
on_ok_both (Ok x) f a b = f a b
on_ok_both (Err e) f a b = tt
