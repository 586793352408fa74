-- What is left of a claim when one of its pieces is laid: the test of the list of its pieces fails where one that it
-- touches isn't laid, and only there.
use Rattle.std.proofs.Common.{◌≡◌, ◌≢◌, inl, inr, ℕ, zero, suc, ◌+◌, ◌<◌, ◌≤◌, Bool, true, false, cond, ◌&&◌, ◌||◌, List, ◌∷◌, Some, None, refl, sym, ap, subst, arith}
use Rattle.std.specs.Prelude.{if◌then◌else◌, filter, nat_le, nat_lt}
use Rattle.std.specs.List.{range_with_len, list_all}
use Rattle.std.proofs.lemmas.Bool.{cases_eq, cases_Bool, eq-eqb, ne_eqb, and_parts, and_from, and_left, and_right, leb-true, le-leb, ltb-true, lt-ltb, false≢true}
use Rattle.part_geometry.specs.Shape.{Shape, IsShape}
use Rattle.part_geometry.specs.Pieces.{pieces, first_part, need_count, Touches}
use Rattle.pair_core.specs.Core.{has}
use Rattle.pair_core.specs.Reading.{touches, pieces_over}
use Rattle.pair_core.specs.Steps.{left_of}
use Rattle.pair_core.specs.declared.view.Pending.{Pending}
use Rattle.pair_core.proofs.Cut.{touch_range, range_touch}

-- a list has the number before it
pub has_here : (i : ℕ) (xs : List ℕ) → has (i ∷ xs) i ≡ true
has_here i xs = ap (λ (b : Bool). b || has xs i) (eq-eqb i i refl)

-- and any other one where the rest of it has
pub has_else : (i j : ℕ) (xs : List ℕ) → j ≢ i → has (i ∷ xs) j ≡ has xs j
has_else i j xs other = ap (λ (b : Bool). b || has xs j) (ne_eqb i j (λ e. other (sym e)))

-- a filtered range with one number more in front
kept_false : (test keep : ℕ → Bool) (a : ℕ) (xs : List ℕ) → list_all test xs ≡ false → list_all test (cond (keep a) (a ∷ xs) xs) ≡ false
kept_false test keep a xs e = elim (cases_Bool (keep a)) [
  | inl on ↦ subst (λ (b : Bool). list_all test (cond b (a ∷ xs) xs) ≡ false) (sym on) (and_right (test a) (list_all test xs) e)
  | inr off ↦ subst (λ (b : Bool). list_all test (cond b (a ∷ xs) xs) ≡ false) (sym off) e
]

-- all of the filtered range pass a test but for one that doesn't
missing : (test keep : ℕ → Bool) (n a j : ℕ) → a ≤ j → j < a + n → keep j ≡ true → test j ≡ false → list_all test (filter keep (range_with_len a n)) ≡ false
missing test keep zero a j low high k t = absurd (omega arith)
missing test keep (suc n) a j low high k t = elim (cases_eq j a) [
  | inl e ↦
      let xs : List ℕ = filter keep (range_with_len (a + 1) n) in
      let on : keep a ≡ true = subst (λ (z : ℕ). keep z ≡ true) e k in
      subst (λ (b : Bool). list_all test (cond b (a ∷ xs) xs) ≡ false) (sym on) (and_left (test a) (list_all test xs) (subst (λ (z : ℕ). test z ≡ false) e t))
  | inr other ↦ kept_false test keep a (filter keep (range_with_len (a + 1) n)) (missing test keep n (a + 1) j (omega arith) (omega arith) k t)
]

-- one that doesn't pass is there
abbrev Fails : (ℕ → Bool) → (ℕ → Bool) → ℕ → ℕ → Type 0
Fails test keep a end = (j : ℕ) × (a ≤ j) × (j < end) × (keep j ≡ true) × (test j ≡ false)

found_next : (test keep : ℕ → Bool) (a end : ℕ) (xs : List ℕ) → a < end → (list_all test xs ≡ false → Fails test keep (a + 1) end) → list_all test (cond (keep a) (a ∷ xs) xs) ≡ false → Fails test keep a end
found_next test keep a end xs high rest e = elim (cases_Bool (keep a)) [
  | inl on ↦ elim (cases_Bool (test a)) [
    | inl passes ↦
        let l : (test a && list_all test xs) ≡ false = subst (λ (b : Bool). list_all test (cond b (a ∷ xs) xs) ≡ false) on e in
        let h = rest (subst (λ (b : Bool). (b && list_all test xs) ≡ false) passes l) in (h.0, (let low = h.1 in omega arith), h.2, h.3, h.4)
    | inr fails ↦ (a, omega arith, high, on, fails)
  ]
  | inr off ↦ let h = rest (subst (λ (b : Bool). list_all test (cond b (a ∷ xs) xs) ≡ false) off e) in (h.0, (let low = h.1 in omega arith), h.2, h.3, h.4)
]

found : (test keep : ℕ → Bool) (n a : ℕ) → list_all test (filter keep (range_with_len a n)) ≡ false → Fails test keep a (a + n)
found test keep zero a e = absurd (false≢true (sym e))
found test keep (suc n) a e =
    let end : a + suc n ≡ a + 1 + n = omega arith in
    found_next test keep a (a + suc n) (filter keep (range_with_len (a + 1) n)) (omega arith)
    (λ l. subst (Fails test keep (a + 1)) (sym end) (found test keep n (a + 1) l)) e

-- the test of a piece and a partition that touch
touches_yes : (g : Shape) → IsShape g → (p i : ℕ) → i < pieces g → Touches g i p → touches g p i ≡ true
touches_yes g v p i inside t =
    let r = touch_range g v i p inside t in
    and_from (nat_le (first_part g i) p) (nat_lt p (first_part g i + need_count g i)) (le-leb (first_part g i) p r.low) (lt-ltb p (first_part g i + need_count g i) r.high)

yes_touches : (g : Shape) → IsShape g → (p i : ℕ) → i < pieces g → touches g p i ≡ true → Touches g i p
yes_touches g v p i inside e =
    let both = and_parts (nat_le (first_part g i) p) (nat_lt p (first_part g i + need_count g i)) e in
    range_touch g v i p inside (leb-true (first_part g i) p both.0) (ltb-true p (first_part g i + need_count g i) both.1)

-- where a piece isn't among those laid and the one being laid, the claim goes on
pub goes_on : (g : Shape) → IsShape g → (i : ℕ) (x : Pending) (j : ℕ) → j < pieces g → Touches g j x.partition → has (i ∷ x.laid) j ≡ false → left_of g i x ≡ Some (record x { laid = i ∷ x.laid })
goes_on g v i x j inside t e =
    let some = missing (has (i ∷ x.laid)) (touches g x.partition) (pieces g) 0 j (omega arith) (omega arith) (touches_yes g v x.partition j inside t) e in
    subst (λ (b : Bool). (if b then None else Some (record x { laid = i ∷ x.laid })) ≡ Some (record x { laid = i ∷ x.laid })) (sym some) refl

-- where the claim goes on a piece is left
pub record GoesOn (g : Shape) (i : ℕ) (x y : Pending) : Type 0 where
  -- the claim has the piece laid too
  pub is : y ≡ record x { laid = i ∷ x.laid }
  -- and lacks another that it touches
  pub some : (j : ℕ) × (j < pieces g) × Touches g j x.partition × (has (i ∷ x.laid) j ≡ false)

-- where something is left of a claim it goes on so
pub on_from : (g : Shape) → IsShape g → (i : ℕ) (x y : Pending) → left_of g i x ≡ Some y → GoesOn g i x y
on_from g v i x y e = elim (cases_Bool (list_all (has (i ∷ x.laid)) (pieces_over g x.partition))) [
  | inl all ↦
      let z : None ≡ Some y = subst (λ (b : Bool). (if b then None else Some (record x { laid = i ∷ x.laid })) ≡ Some y) all e in absurd (cc)
  | inr fails ↦
      let h = found (has (i ∷ x.laid)) (touches g x.partition) (pieces g) 0 fails in
      let inside : h.0 < pieces g = omega (arith, h.2) in
      record {
        is = let z : Some (record x { laid = i ∷ x.laid }) ≡ Some y = subst (λ (b : Bool). (if b then None else Some (record x { laid = i ∷ x.laid })) ≡ Some y) fails e in cc;
        some = (h.0, inside, yes_touches g v x.partition h.0 inside h.3, h.4);
      }
]
