-- Marks in a list: that one stands in it, and how often its round and partition do.
use Rattle.std.proofs.Common.{◌≡◌, ◌⊎◌, inl, inr, ⊎_elim, ℕ, zero, suc, ◌≤◌, Bool, true, false, ◌==◌, ◌&&◌, List, [], ◌∷◌, ◌++◌, Contains, refl, ap, ◌∙◌, arith}
use Rattle.std.specs.Prelude.{if◌then◌else◌}
use Rattle.std.proofs.lemmas.Bool.{eq-eqb, eqb-true}
use Rattle.pair_core.specs.Core.{is_mark, times}
use Rattle.pair_core.specs.declared.view.Mark.{Mark}

module _ {X : Type 0} where
  -- what stands in a list is its first element or stands in the rest
  pub in_cons : (x y : X) (xs : List X) → Contains (x ∷ xs) y → (x ≡ y) ⊎ Contains xs y
  in_cons x y xs (zero, low, at) = inl at
  in_cons x y xs (suc k, low, at) = inr (k, omega arith, at)

  pub in_rest : (x y : X) (xs : List X) → Contains xs y → Contains (x ∷ xs) y
  in_rest x y xs h = (suc h.0, omega (arith, h.1), h.2)

  pub in_first : (x : X) (xs : List X) → Contains (x ∷ xs) x
  in_first x xs = (0, omega arith, refl)

  pub in_none : (y : X) → Contains [] y → ⊥
  in_none y h = let l = h.1 in omega arith

  -- what stands in two lists one after another stands in one of them
  pub in_both : (xs ys : List X) (y : X) → Contains (xs ++ ys) y → Contains xs y ⊎ Contains ys y
  in_both [] ys y h = inr h
  in_both (x ∷ xs) ys y h = ⊎_elim (λ (e : x ≡ y). inl (0, omega arith, e))
      (λ (t : Contains (xs ++ ys) y). ⊎_elim (λ (a : Contains xs y). inl (in_rest x y xs a)) (λ (b : Contains ys y). inr b) (in_both xs ys y t))
      (in_cons x y (xs ++ ys) h)

pub cases : (b : Bool) → (b ≡ true) ⊎ (b ≡ false)
cases true = inl refl
cases false = inr refl

pub both_true : (a b : Bool) → (a && b) ≡ true → (a ≡ true) × (b ≡ true)
both_true true b e = (refl, e)
both_true false b e = absurd (cc)

one_if : (b : Bool) → b ≡ true → ◌≡◌ {A = ℕ} (if b then 1 else 0) 1
one_if b e = ap (λ (z : Bool). let n : ℕ = if z then 1 else 0 in n) e

pub none_if : (b : Bool) → b ≡ false → ◌≡◌ {A = ℕ} (if b then 1 else 0) 0
none_if b e = ap (λ (z : Bool). let n : ℕ = if z then 1 else 0 in n) e

module _ {A : Type 0} where
  is_itself : (m : Mark A) → is_mark m.round m.partition m ≡ true
  is_itself m = (λ i. eq-eqb m.round m.round refl i && eq-eqb m.partition m.partition refl i)

  -- a mark in a list counts
  pub times_in : (m : Mark A) (ms : List (Mark A)) → Contains ms m → 1 ≤ times m.round m.partition ms
  times_in m [] h = absurd (in_none m h)
  times_in m (x ∷ xs) h = ⊎_elim
      (λ (e : x ≡ m). let one = one_if (is_mark m.round m.partition x) (ap (is_mark m.round m.partition) e ∙ is_itself m) in omega (arith, one))
      (λ (t : Contains xs m). let more = times_in m xs t in omega arith)
      (in_cons x m xs h)

  -- a round and a partition that a list has are those of a mark in it
  pub in_times : (k p : ℕ) (ms : List (Mark A)) → 1 ≤ times k p ms → (m : Mark A) × Contains ms m × (m.round ≡ k) × (m.partition ≡ p)
  in_times k p [] h = absurd (omega arith)
  in_times k p (x ∷ xs) h = ⊎_elim
      (λ (e : is_mark k p x ≡ true). let both = both_true (x.round == k) (x.partition == p) e in (x, in_first x xs, eqb-true x.round k both.0, eqb-true x.partition p both.1))
      (λ (e : is_mark k p x ≡ false). let none = none_if (is_mark k p x) e in
      let r = in_times k p xs (omega (arith, none)) in (r.0, in_rest x r.0 xs r.1, r.2, r.3))
      (cases (is_mark k p x))
