-- The list of bounds is ascending, and has the bounds and nothing else. A bound is a multiple of one of the two sizes,
-- up to the total: so a filter that keeps the places with no remainder by one of them finds exactly these.
use Rattle.std.proofs.Common.{◌≡◌, ℕ, zero, suc, ◌+◌, ◌*◌, ◌/◌, ◌%◌, ◌<◌, ◌≤◌, Bool, true, false, ◌==◌, cond, [], ◌∷◌, filter, Contains, sym, ◌∙◌, arith, inl, inr}
use Rattle.std.specs.List.{range_with_len}
use Rattle.std.proofs.Math.Nat.{mul-mod_left}
use Rattle.std.proofs.lemmas.Nat.{mul-le}
use Rattle.std.proofs.lemmas.Bool.{cases_lt, cases_eq, or_cases, or_left, or_right, eqb-true, eq-eqb}
use Rattle.std.proofs.lemmas.List.{get_or_default}
use Rattle.std.proofs.lemmas.List.Elements.{Contains-append_right}
use Rattle.part_geometry.specs.Shape.{Shape, IsShape, send_total}
use Rattle.part_geometry.specs.Cells.{IsBound, AreBounds, is_bound, bounds, cells, start}
use Rattle.part_geometry.proofs.Bounds.{is_at, start-rises}

-- a place of a range that passes is in the filtered range
Contains-filter_range : (p : ℕ → Bool) (n a x : ℕ) → a ≤ x → x < a + n → p x ≡ true → Contains (filter p (range_with_len a n)) x
Contains-filter_range p zero a x low high here = absurd (omega arith)
Contains-filter_range p (suc n) a x low high here =
    let rest = filter p (range_with_len (a + 1) n) in
    elim (cases_eq x a) [
      | inl same ↦
          let e : p a ≡ true = rw (← same) here in
          rw e (0, omega arith, sym same)
      | inr other ↦
          let later : Contains rest x = Contains-filter_range p n (a + 1) x (omega arith) (omega arith) here in
          elim (p a) as (λ b. Contains (cond b (a ∷ rest) rest) x) [ true ↦ Contains-append_right (a ∷ []) rest x later | false ↦ later ]
    ]

-- a multiple of s up to the n-th one
multiple_of : (x s n : ℕ) → 0 < s → x ≤ n * s → x % s ≡ 0 → (i : ℕ) × (i ≤ n) × (x ≡ i * s)
multiple_of x s n pos within none =
    let whole : x ≡ x / s * s = omega arith in (
      x / s,
      elim (cases_lt n (x / s)) [
        | inl h ↦ let more : (n + 1) * s ≤ x / s * s = mul-le (n + 1) s (x / s) s (omega arith) (omega arith) in absurd (omega arith)
        | inr h ↦ h
      ],
      whole,
    )

-- a place up to the total with no remainder by one of the sizes is a bound
bound_from : (g : Shape) (v : IsShape g) (x : ℕ) → x ≤ send_total g → is_bound g x ≡ true → IsBound g x
bound_from g v x within here =
    elim (or_cases _ _ here) [
      | inl e ↦ inl (multiple_of x g.send_bytes g.send_parts (omega (arith, v.send_bytes.0)) within (eqb-true _ _ e))
      | inr e ↦ inr (multiple_of x g.recv_bytes g.recv_parts (omega (arith, v.recv_bytes.0)) (omega (arith, v.same)) (eqb-true _ _ e))
    ]

-- and a bound is such a place
bound_to : (g : Shape) (v : IsShape g) (x : ℕ) → IsBound g x → (is_bound g x ≡ true) × (x ≤ send_total g)
bound_to g v x (inl (i, low, e)) =
    let multiple : (x % g.send_bytes == 0) ≡ true = rw e (eq-eqb _ _ (mul-mod_left i g.send_bytes)) in
    (or_left _ _ multiple, rw e (mul-le i g.send_bytes g.send_parts g.send_bytes low (omega arith)))
bound_to g v x (inr (j, low, e)) =
    let multiple : (x % g.recv_bytes == 0) ≡ true = rw e (eq-eqb _ _ (mul-mod_left j g.recv_bytes)) in
    (or_right _ _ multiple, rw (e, v.same) (mul-le j g.recv_bytes g.recv_parts g.recv_bytes low (omega arith)))

-- the list of bounds is ascending, and has the bounds and nothing else
pub are_bounds : (g : Shape) → IsShape g → AreBounds g (bounds g)
unfolding bounds cells start
are_bounds g v = record {
  ascending = λ k inside. start-rises g v k (omega arith);
  members = λ x. (
    (λ found.
        let k = found.0 in
        let there : start g k ≡ x = get_or_default (bounds g) k 0 x found.1 ∙ found.2 in
        let at = is_at g v k (let h = found.1 in omega arith) in
        bound_from g v x (rw (← there) at.within) (rw (← there) at.bound)),
    (λ is.
        let h = bound_to g v x is in
        Contains-filter_range (is_bound g) (send_total g + 1) 0 x (omega arith) (omega (arith, h.1)) h.0),
  );
}
