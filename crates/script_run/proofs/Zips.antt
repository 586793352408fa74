-- Two lists that agree place by place: by induction over both.
use Rattle.std.proofs.Common.{◌≡◌, ℕ, zero, suc, ◌<◌, List, [], ◌∷◌, ◌++◌, length, get_or, set, Some, refl, ap, arith}
use Rattle.std.specs.List.{AllZip}
use Rattle.std.specs.Prelude.{slice_get}

-- lists that agree are of one length
pub zip_length : {A B : Type 0} (R : A → B → Type 0) (xs : List A) (ys : List B) → AllZip R xs ys → length xs ≡ length ys
zip_length R [] [] z = refl
zip_length R [] (y ∷ ys) z = elim z [ ]
zip_length R (x ∷ xs) [] z = elim z [ ]
zip_length R (x ∷ xs) (y ∷ ys) z = ap suc (zip_length R xs ys z.1)

-- lists that agree do so with one item more at the end of each, if these two agree
pub zip_push : {A B : Type 0} (R : A → B → Type 0) (xs : List A) (ys : List B) (a : A) (b : B) → AllZip R xs ys → R a b → AllZip R (xs ++ a ∷ []) (ys ++ b ∷ [])
zip_push R [] [] a b z r = (r, tt)
zip_push R [] (y ∷ ys) a b z r = elim z [ ]
zip_push R (x ∷ xs) [] a b z r = elim z [ ]
zip_push R (x ∷ xs) (y ∷ ys) a b z r = (z.0, zip_push R xs ys a b z.1 r)

-- there is an item at place i of ys, and x agrees with it
pub record At {A B : Type 0} (R : A → B → Type 0) (x : A) (ys : List B) (i : ℕ) : Type 0 where
  pub item : B
  pub is : slice_get ys i ≡ Some item
  pub agrees : R x item

-- the item at a place of the first list has one at the same place of the second that agrees with it
pub zip_at : {A B : Type 0} (R : A → B → Type 0) (xs : List A) (ys : List B) (i : ℕ) (d : A) → AllZip R xs ys → i < length xs → At R (get_or xs i d) ys i
zip_at R [] [] i d z inside = elim (no_less i inside) [ ]
  where
    no_less : (i : ℕ) → i < length {A = ℕ} [] → ⊥
    no_less i h = omega arith
zip_at R [] (y ∷ ys) i d z inside = elim z [ ]
zip_at R (x ∷ xs) [] i d z inside = elim z [ ]
zip_at R (x ∷ xs) (y ∷ ys) zero d z inside = record { item = y; is = refl; agrees = z.0 }
zip_at R (x ∷ xs) (y ∷ ys) (suc i) d z inside = let rest = zip_at R xs ys i d z.1 (omega arith) in record { item = rest.item; is = rest.is; agrees = rest.agrees }

-- lists that agree do so with two items that agree put in at the same place of both
pub zip_set : {A B : Type 0} (R : A → B → Type 0) (xs : List A) (ys : List B) (i : ℕ) (a : A) (b : B) → AllZip R xs ys → R a b → AllZip R (set xs i a) (set ys i b)
zip_set R [] [] i a b z r = tt
zip_set R [] (y ∷ ys) i a b z r = elim z [ ]
zip_set R (x ∷ xs) [] i a b z r = elim z [ ]
zip_set R (x ∷ xs) (y ∷ ys) zero a b z r = (r, z.1)
zip_set R (x ∷ xs) (y ∷ ys) (suc i) a b z r = (z.0, zip_set R xs ys i a b z.1 r)
