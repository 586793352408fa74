-- A product with a reciprocal gives the quotient. The reciprocal times the divisor is below a power of two by at most
-- the divisor, and for the sums that occur this error never reaches the next quotient.
use Rattle.std.proofs.lemmas.Int.{ints, to_z-of_z, fits_signed_from_abs}
use Rattle.stencil_def.specs.Limits.{IsDiv}
use Rattle.std.proofs.Common.{◌≡◌, ◌∙◌, sym, ap, subst, pow-add, inl, inr, ℤ, pos, negsuc, unsigned_abs, to_z, of_z, w64, ℕ, ◌+◌, ◌-◌, ◌*◌, ◌/◌, ◌%◌, ◌^◌, ◌<◌, ◌≤◌, arith}
use Rattle.std.proofs.lemmas.Bool.{cases_lt}
use Rattle.std.proofs.lemmas.Nat.{mul-le}
use Rattle.std.proofs.Math.Nat.{div-eq_of_lt-le, div-div-eq-div-mul, div-mul-le_self, lt-div-mul-add, lt_of_mul-lt-mul_right, div-lt_iff_lt-mul, mod-eq_of_lt}
use Rattle.std.proofs.Math.Pow.{pow_mono, pow-lt}
use Rattle.cell_lanes.specs.Reciprocal.{IsReciprocal}

-- m * d is less than n, by e at most d; n is so great that (a + 1) * e is at most n
pub quotient-is : (a d m n e : ℕ) → m * d + e ≡ n → 1 ≤ e → (a + 1) * e ≤ n → 1 ≤ d → (a + 1) * m / n ≡ a / d
quotient-is a d m n e whole some small least-d =
    let q = a / d in
    let low : q * d ≤ a = div-mul-le_self a d in
    let high : a < q * d + d = lt-div-mul-add least-d in
    let scaled : (a + 1) * (m * d + e) ≡ (a + 1) * n = ap (λ x. (a + 1) * x) whole in
    let least : q * d * n ≤ a * n = mul-le (q * d) n a n low (omega arith) in
    let most : (a + 1) * n ≤ (q * d + d) * n = mul-le (a + 1) n (q * d + d) n (omega arith) (omega arith) in
    let part : (a + 1) * 1 ≤ (a + 1) * e = mul-le (a + 1) 1 (a + 1) e (omega arith) some in
    let under : q * n * d < ((a + 1) * m + 1) * d = omega (arith, scaled, least, small, least-d) in
    let over : (a + 1) * m * d < (q + 1) * n * d = omega (arith, scaled, most, part) in
    let bottom : q * n < (a + 1) * m + 1 = lt_of_mul-lt-mul_right d under in
    let top : (a + 1) * m < (q + 1) * n = lt_of_mul-lt-mul_right d over in
    div-eq_of_lt-le n (omega arith) top

-- the quotient, as the code computes it
pub divided : (a d m k : ℕ) → IsReciprocal d m k → a ≤ 25000000000000000 → (a + 1) * m / 18446744073709551616 / 2 ^ k ≡ a / d
divided a d m k r small =
    let n = 18446744073709551616 * 2 ^ k in
    let power : 2 ^ (64 + k) ≡ n = pow-add 2 64 k in
    let below : m * d < n = subst (λ x. m * d < x) power r.below in
    let next : n ≤ (m + 1) * d = subst (λ x. x ≤ (m + 1) * d) power r.next in
    let e = n - m * d in
    let whole : m * d + e ≡ n = omega arith in
    let rest : e ≤ d = omega (arith, next, whole) in
    let most = r.most in
    let bound : (a + 1) * e ≤ 36028797018963968 * (2 * 2 ^ k) = mul-le (a + 1) e 36028797018963968 (2 * 2 ^ k) (omega arith) (omega arith) in
    let some : 1 ≤ e = omega arith in
    div-div-eq-div-mul ((a + 1) * m) 18446744073709551616 (2 ^ k) ∙ quotient-is a d m n e whole some (omega (arith, bound)) r.limits.0

-- the reciprocal, as the code makes it
pub made-below : (v n : ℕ) → 1 ≤ n → (n - 1) / v * v < n
made-below v n h = let low = div-mul-le_self (n - 1) v in omega (arith, low)

-- one more than it, times v, is at least n
pub made-next : (v n : ℕ) → 1 ≤ v → 1 ≤ n → n ≤ ((n - 1) / v + 1) * v
made-next v n h g = let high : n - 1 < (n - 1) / v * v + v = lt-div-mul-add h in omega (arith, high)

-- it fits 64 bits
pub made-fits : (v k : ℕ) → 2 ^ k ≤ v → 1 ≤ v → (2 ^ (64 + k) - 1) / v < 18446744073709551616
made-fits v k h g =
    let power : 2 ^ (64 + k) ≡ 18446744073709551616 * 2 ^ k = pow-add 2 64 k in
    let room : 2 ^ (64 + k) - 1 < 18446744073709551616 * v = omega (arith, power, h, g) in
    (div-lt_iff_lt-mul g).1 room

-- the shifted 1
pub scale-is : (k : ℕ) → k < 64 → 1 * 2 ^ (64 + k) % 340282366920938463463374607431768211456 ≡ 2 ^ (64 + k)
scale-is k h =
    let one : 1 * 2 ^ (64 + k) ≡ 2 ^ (64 + k) = omega arith in
    let below : 64 + k < 128 = omega arith in
    let size : 2 ^ (64 + k) < 2 ^ 128 = pow-lt below in
    ap (λ x. x % 340282366920938463463374607431768211456) one ∙ mod-eq_of_lt size

-- a divisor, as the code casts it
pub size-of : (z : ℤ) → IsDiv z → (1 ≤ unsigned_abs z) × (unsigned_abs z ≤ 1000000)
size-of (pos n) h = let a = h.0 in let b = h.1 in (omega (arith, ints, a), omega (arith, ints, b))
size-of (negsuc n) h = let a = h.0 in absurd (omega (arith, ints, a))

-- a divisor comes back from its 64 bits
pub divisor-back : (z : ℤ) → IsDiv z → to_z w64 (of_z w64 z) ≡ z
divisor-back z h = let s = (size-of z h).1 in to_z-of_z w64 z (fits_signed_from_abs w64 z (omega arith))

-- a divisor, taken from its 64 bits, is from 1 to 1,000,000 in size
pub cast-size : (z : ℤ) → IsDiv z → (1 ≤ unsigned_abs (to_z w64 (of_z w64 z))) × (unsigned_abs (to_z w64 (of_z w64 z)) ≤ 1000000)
cast-size z h = rw (divisor-back z h) (size-of z h)

-- what the code makes of it is a reciprocal
pub made-reciprocal : (v k : ℕ) → (1 ≤ v) × (v ≤ 1000000) → k < 64 → 2 ^ k ≤ v → v < 2 * 2 ^ k
    → IsReciprocal v ((1 * 2 ^ (64 + k) % 340282366920938463463374607431768211456 - 1) / v) k
made-reciprocal v k size digits least most =
    let some : 1 ≤ 2 ^ (64 + k) = let from : 0 ≤ 64 + k = omega arith in pow_mono from in
    subst (λ n. IsReciprocal v ((n - 1) / v) k) (sym (scale-is k digits)) (record {
      limits = size;
      digits = digits;
      least = least;
      most = most;
      below = made-below v (2 ^ (64 + k)) some;
      next = made-next v (2 ^ (64 + k)) size.0 some;
    })

-- a power of two that is a divisor
pub shift-small : (k : ℕ) → 2 ^ k ≤ 1000000 → k < 20
shift-small k h = elim (cases_lt k 20) [ inl below ↦ below | inr least ↦ (let great : 1048576 ≤ 2 ^ k = pow_mono least in absurd (omega arith)) ]

shifted-one : (k : ℕ) → 2 ^ k ≤ 1000000 → 1 * 2 ^ k % 4294967296 ≡ 2 ^ k
shifted-one k h =
    let one : 1 * 2 ^ k ≡ 2 ^ k = omega arith in
    let size : 2 ^ k < 4294967296 = omega arith in
    ap (λ x. x % 4294967296) one ∙ mod-eq_of_lt size

-- a divisor that is found to be a power of two
pub power-small : (d m k : ℕ) → IsReciprocal d m k → 2 ^ k ≤ 1000000
power-small d m k r = let least = r.least in let most = r.limits.1 in omega arith

-- a divisor that equals the shifted 1 is 2 ^ k
pub power-is : (d m k : ℕ) → IsReciprocal d m k → d ≡ 1 * 2 ^ k % 4294967296 → pos d ≡ pos (2 ^ k)
power-is d m k r found = ap pos (found ∙ shifted-one k (power-small d m k r))
