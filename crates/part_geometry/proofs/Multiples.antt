-- The multiples of a number: the next one after a place, and that none lies between. With this a filter of a range by a
-- remainder goes from one multiple to the next.
use Rattle.std.proofs.Common.{◌≡◌, ℕ, zero, suc, zero-add, add-zero, ◌+◌, ◌*◌, ◌/◌, ◌%◌, ◌<◌, ◌≤◌, Bool, true, false, ◌==◌, ◌∷◌, filter, refl, arith}
use Rattle.std.specs.List.{range_with_len}
use Rattle.std.proofs.Math.Nat.{mul-le-mul_left, div-lt_iff_lt-mul, mul-mod_left, mul-le-mul_right, suc-add}
use Rattle.std.proofs.lemmas.Bool.{eq-eqb, ne_eqb}

-- no multiple of s lies behind x and before the next one
pub none_between : (x z s : ℕ) → 0 < s → x < z → z < (x / s + 1) * s → (z % s == 0) ≡ false
none_between x z s pos above below = ne_eqb _ _ (λ none.
    let quotient : z / s < x / s + 1 = (div-lt_iff_lt-mul pos).1 below in
    let lower : s * (z / s) ≤ s * (x / s) = mul-le-mul_left s (omega arith) in
    omega arith)

-- the next one is behind x
pub next_above : (x s : ℕ) → 0 < s → x < (x / s + 1) * s
next_above x s pos = omega arith

-- where x is before the n-th multiple, so is the next one, or it is that one
pub next_within : (x s n : ℕ) → 0 < s → x < n * s → (x / s + 1) * s ≤ n * s
next_within x s n pos below =
    let quotient : x / s < n = (div-lt_iff_lt-mul pos).1 below in
    mul-le-mul_right s (omega arith)

-- a multiple of s has no remainder by s
pub is_multiple : (q s : ℕ) → ((q * s) % s == 0) ≡ true
is_multiple q s = eq-eqb _ _ (mul-mod_left q s)

-- in a filtered range, places that don't pass are skipped
pub filter-skip : (p : ℕ → Bool) (k a n : ℕ) → ((x : ℕ) → a ≤ x → x < a + k → p x ≡ false)
    → filter p (range_with_len a (k + n)) ≡ filter p (range_with_len (a + k) n)
filter-skip p zero a n none = rw (zero-add, add-zero) refl
filter-skip p (suc k) a n none =
    let here : p a ≡ false = none a (omega arith) (omega arith) in
    let rest = filter-skip p k (a + 1) n (λ x low high. none x (omega arith) (omega arith)) in
    let e : a + suc k ≡ a + 1 + k = omega arith in
    rw (suc-add, here, e) rest

-- and one that passes is kept
pub filter-keep : (p : ℕ → Bool) (a n : ℕ) → p a ≡ true → filter p (range_with_len a (suc n)) ≡ a ∷ filter p (range_with_len (a + 1) n)
filter-keep p a n here = rw here refl
