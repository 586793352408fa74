-- Vectors of signed numbers, lane by lane. A number below 2^63 in size comes back from its bits, so sums of small
-- lanes are the true sums.
use Rattle.std.proofs.Common.{◌≡◌, refl, ℕ, ◌≤◌, ◌<◌, ◌^◌, ℤ, ◌+ℤ◌, ◌*ℤ◌, unsigned_abs, FitsSigned, to_z, of_z, w64, List, [], ◌∷◌, map, arith}
use Rattle.std.specs.Simd.Lanes.{zip2, Each1, Each2}
use Rattle.std.proofs.lemmas.Int.{ints, to_z-of_z, fits_signed_from_abs, unsigned_abs-mul}
use Rattle.std.proofs.lemmas.Nat.{mul-le}
use Rattle.stencil_def.specs.Limits.{IsWeight, IsValue}
use Rattle.cell_lanes.specs.Parts.{IsPart}

-- what the sum of two lanes gives, as bits
abbrev pub bits_sum : ℕ → ℕ → ℕ
bits_sum a b = of_z w64 (to_z w64 a +ℤ to_z w64 b)

-- a number below 2^63 in size comes back from its 64 bits
pub back : (z : ℤ) → unsigned_abs z < 2 ^ 63 → to_z w64 (of_z w64 z) ≡ z
back z h = to_z-of_z w64 z (fits_signed_from_abs w64 z h)

part-back : (z : ℤ) → IsPart z → to_z w64 (of_z w64 z) ≡ z
part-back z h = back z (omega arith)

-- a weight times a value is at most 10^15 in size
pub product-size : (a v : ℤ) → IsWeight a → IsValue v → unsigned_abs (a *ℤ v) ≤ 1000000000000000
product-size a v p q =
    let m = mul-le (unsigned_abs a) (unsigned_abs v) 1000 1000000000000 p q in
    rw (unsigned_abs-mul a v) m

sum-fits : (a b : ℤ) → IsPart a → IsPart b → FitsSigned w64 (to_z w64 (of_z w64 a) +ℤ to_z w64 (of_z w64 b))
sum-fits a b p q =
    let total : unsigned_abs (a +ℤ b) < 2 ^ 63 = omega (arith, ints) in
    rw (part-back a p, part-back b q) (fits_signed_from_abs w64 (a +ℤ b) total)

-- lane by lane, the sum of two parts fits a signed word of 64 bits
pub sums-fit : (xs ys : List ℤ) → Each1 IsPart xs → Each1 IsPart ys
    → Each2 (λ (a b : ℕ). FitsSigned w64 (to_z w64 a +ℤ to_z w64 b)) (map (of_z w64) xs) (map (of_z w64) ys)
sums-fit [] ys p q = tt
sums-fit (x ∷ xs) [] p q = tt
sums-fit (x ∷ xs) (y ∷ ys) p q = (sum-fits x y p.0 q.0, sums-fit xs ys p.1 q.1)

-- what the sum of two vectors gives as bits stands for the sums of their lanes
pub sums-are : (xs ys : List ℤ) → Each1 IsPart xs → Each1 IsPart ys
    → map (to_z w64) (zip2 bits_sum (map (of_z w64) xs) (map (of_z w64) ys)) ≡ zip2 (λ a b. a +ℤ b) xs ys
sums-are [] ys p q = refl
sums-are (x ∷ xs) [] p q = refl
sums-are (x ∷ xs) (y ∷ ys) p q =
    let total : unsigned_abs (x +ℤ y) < 2 ^ 63 = let a = p.0 in let b = q.0 in omega (arith, ints) in
    let one : to_z w64 (bits_sum (of_z w64 x) (of_z w64 y)) ≡ x +ℤ y = rw (part-back x p.0, part-back y q.0) (back (x +ℤ y) total) in
    let rest = sums-are xs ys p.1 q.1 in
    λ i. one i ∷ rest i
