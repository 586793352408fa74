-- Products by halves: a value is divided into its low 20 bits and the others. The weight times each part is the true
-- product, and the two products, the one of the high part raised by 20 bits, add up to the whole one.
use Rattle.std.proofs.Common.{◌≡◌, ◌∙◌, sym, ap, ℕ, ◌+◌, ◌-◌, ◌*◌, ◌/◌, ◌%◌, ◌^◌, ◌<◌, ◌≤◌, ℤ, pos, negsuc, ◌+ℤ◌, ◌*ℤ◌, unsigned_abs, FitsSigned, to_z, of_z, w64, List, [], ◌∷◌, map, length, arith, bit_and}
use Rattle.std.specs.Int.Signed.{shr_z}
use Rattle.std.proofs.lemmas.Int.{ints, to_z_pos, fits_signed_from_abs, fits_signed_mul, unsigned_abs-mul, wrapping_mul_onto, int_wrap_fits}
use Rattle.std.specs.Int.{int_wrap}
use Rattle.std.proofs.lemmas.Nat.{mul-le, and_mask}
use Rattle.std.proofs.Math.Nat.{div-eq_of_lt-le}
use Rattle.cell_lanes.proofs.ProductFacts.{spread, associate}
use Rattle.std.specs.Simd.Lanes.{zip2, Each1, Each2}
use Rattle.stencil_def.specs.Limits.{IsWeight}
use Rattle.cell_lanes.specs.Parts.{IsAlike}
use Rattle.cell_lanes.proofs.LaneFacts.{back}

-- a number that is a multiple of m and a rest below m, shifted to the right
shr-is : (z : ℤ) (q : ℤ) (m r : ℕ) → r < m → z ≡ q *ℤ pos m +ℤ pos r → shr_z z m ≡ q
shr-is (pos n) (pos a) m r less e =
    let same : n ≡ a * m + r = omega (arith, ints, e) in
    ap pos (div-eq_of_lt-le m (omega arith) (omega arith))
shr-is (negsuc n) (pos a) m r less e = absurd (omega (arith, ints, e))
shr-is (pos n) (negsuc a) m r less e = absurd (omega (arith, ints, e))
shr-is (negsuc n) (negsuc a) m r less e =
    let same : n + 1 + r ≡ (a + 1) * m = omega (arith, ints, e) in
    ap negsuc (div-eq_of_lt-le m (omega arith) (omega arith))

bits-of : (v : ℤ) → unsigned_abs v < 2 ^ 63 → of_z w64 v < 2 ^ 64
bits-of (pos n) h = omega arith
bits-of (negsuc n) h = omega arith

-- a number shifted to the left, where no bit is lost
left-is : (v : ℤ) (m : ℕ) → unsigned_abs v * m < 2 ^ 63 → unsigned_abs v < 2 ^ 63 → m < 2 ^ 63
    → to_z w64 (of_z w64 v * m % 2 ^ 64) ≡ v *ℤ pos m
left-is v m h s g =
    let product : unsigned_abs (v *ℤ pos m) < 2 ^ 63 = rw (unsigned_abs-mul v (pos m)) h in
    wrapping_mul_onto w64 (of_z w64 v) (pos m) (bits-of v s) (fits_signed_from_abs w64 (pos m) g)
    ∙ (ap (λ z. int_wrap w64 (z *ℤ pos m)) (back v s) ∙ int_wrap_fits w64 (v *ℤ pos m) (fits_signed_from_abs w64 (v *ℤ pos m) product))

-- the low 20 bits, as a number
abbrev pub low : ℤ → ℕ
low v = bit_and (of_z w64 v) 1048575

-- both parts of a value
parts-are : (v : ℤ) → unsigned_abs v < 2 ^ 63 → v ≡ shr_z v 1048576 *ℤ pos 1048576 +ℤ pos (of_z w64 v % 1048576)
parts-are (pos n) h =
    let whole : n ≡ n / 1048576 * 1048576 + n % 1048576 = omega arith in
    omega (arith, ints, whole)
parts-are (negsuc n) h =
    let whole : n ≡ n / 1048576 * 1048576 + n % 1048576 = omega arith in
    let rest : (18446744073709551616 - (n + 1)) % 1048576 ≡ 1048575 - n % 1048576 = omega (arith, whole) in
    omega (arith, ints, whole, rest)

-- the high part of a value, as it is shifted twice
high-is : (v : ℤ) → unsigned_abs v < 2 ^ 63 → shr_z (v *ℤ pos 4096) 4294967296 ≡ shr_z v 1048576
high-is v h =
    let rest = of_z w64 v % 1048576 in
    let parts = parts-are v h in
    shr-is (v *ℤ pos 4096) (shr_z v 1048576) 4294967296 (rest * 4096) (omega arith) (omega (arith, ints, parts))

-- what the code makes of a weight and of a value's two parts, as bits
abbrev pub short_bits : ℕ → ℕ
short_bits a = of_z w64 (shr_z (to_z w64 (a * 2 ^ 32 % 2 ^ 64)) (2 ^ 32))

abbrev pub high_bits : ℕ → ℕ
high_bits a = of_z w64 (shr_z (to_z w64 (a * 2 ^ 12 % 2 ^ 64)) (2 ^ 32))

abbrev pub low_bits : ℕ → ℕ
low_bits a = bit_and a 1048575

-- the weight itself
short-is : (w : ℤ) → IsWeight w → to_z w64 (short_bits (of_z w64 w)) ≡ w
short-is w h =
    let small : unsigned_abs w < 2 ^ 63 = omega arith in
    let shifted : shr_z (w *ℤ pos 4294967296) 4294967296 ≡ w = shr-is (w *ℤ pos 4294967296) w 4294967296 0 (omega arith) (omega (arith, ints)) in
    ap (λ z. to_z w64 (of_z w64 (shr_z z 4294967296))) (left-is w 4294967296 (omega arith) small (omega arith))
    ∙ (ap (λ z. to_z w64 (of_z w64 z)) shifted ∙ back w small)

-- how great the parts are
high-small : (v : ℤ) → IsAlike v → unsigned_abs (shr_z v 1048576) ≤ 4000000
high-small (pos n) h = omega arith
high-small (negsuc n) h = omega arith

high-bits : (v : ℤ) → IsAlike v → to_z w64 (high_bits (of_z w64 v)) ≡ shr_z v 1048576
high-bits v h =
    let small : unsigned_abs v < 2 ^ 63 = omega arith in
    let size = high-small v h in
    ap (λ z. to_z w64 (of_z w64 (shr_z z 4294967296))) (left-is v 4096 (omega arith) small (omega arith))
    ∙ (ap (λ z. to_z w64 (of_z w64 z)) (high-is v small) ∙ back (shr_z v 1048576) (omega arith))

low-bits : (v : ℤ) → to_z w64 (low_bits (of_z w64 v)) ≡ pos (of_z w64 v % 1048576)
low-bits v =
    let m : bit_and (of_z w64 v) 1048575 ≡ of_z w64 v % 1048576 = and_mask (of_z w64 v) 20 in
    ap (to_z w64) m ∙ to_z_pos w64 (of_z w64 v % 1048576) (omega arith)

-- the three products and the sum of one lane
pub low-fits : (w v : ℤ) → IsWeight w → IsAlike v → FitsSigned w64 (to_z w64 (short_bits (of_z w64 w)) *ℤ to_z w64 (low_bits (of_z w64 v)))
low-fits w v p q =
    rw (short-is w p, low-bits v) (fits_signed_mul w64 w (pos (of_z w64 v % 1048576)) 1000 1048576 p (omega arith) (omega arith))

-- the weight times the high part fits a signed word of 64 bits
pub high-fits : (w v : ℤ) → IsWeight w → IsAlike v → FitsSigned w64 (to_z w64 (short_bits (of_z w64 w)) *ℤ to_z w64 (high_bits (of_z w64 v)))
high-fits w v p q =
    rw (short-is w p, high-bits v q) (fits_signed_mul w64 w (shr_z v 1048576) 1000 4000000 p (high-small v q) (omega arith))

-- the product of the high part, as bits
abbrev pub high_product : ℕ → ℕ → ℕ
high_product a b = of_z w64 (to_z w64 (short_bits a) *ℤ to_z w64 (high_bits b))

abbrev pub low_product : ℕ → ℕ → ℕ
low_product a b = of_z w64 (to_z w64 (short_bits a) *ℤ to_z w64 (low_bits b))

abbrev pub raised_product : ℕ → ℕ → ℕ
raised_product a b = of_z w64 (to_z w64 (high_product a b) *ℤ to_z w64 1048576)

high-product-size : (w v : ℤ) → IsWeight w → IsAlike v → unsigned_abs (w *ℤ shr_z v 1048576) ≤ 4000000000
high-product-size w v p q =
    let m = mul-le (unsigned_abs w) (unsigned_abs (shr_z v 1048576)) 1000 4000000 p (high-small v q) in
    rw (unsigned_abs-mul w (shr_z v 1048576)) m

high-product : (w v : ℤ) → IsWeight w → IsAlike v → to_z w64 (high_product (of_z w64 w) (of_z w64 v)) ≡ w *ℤ shr_z v 1048576
high-product w v p q =
    let size = high-product-size w v p q in
    rw (short-is w p, high-bits v q) (back (w *ℤ shr_z v 1048576) (omega arith))

-- the product of the high part, raised by 20 bits, fits a signed word of 64 bits
pub raised-fits : (w v : ℤ) → IsWeight w → IsAlike v → FitsSigned w64 (to_z w64 (high_product (of_z w64 w) (of_z w64 v)) *ℤ to_z w64 1048576)
raised-fits w v p q =
    rw (high-product w v p q) (fits_signed_mul w64 (w *ℤ shr_z v 1048576) (pos 1048576) 4000000000 1048576 (high-product-size w v p q) (omega arith) (omega arith))

-- the product of both parts
spread-parts : (w h l m : ℤ) → w *ℤ l +ℤ w *ℤ h *ℤ m ≡ w *ℤ (h *ℤ m +ℤ l)
spread-parts w h l m =
    let whole = spread w (h *ℤ m) l in
    let three = associate w h m in
    omega (arith, ints, whole, three)

-- a weight times a sum of at most four values is at most 4 * 10^15 in size
pub product-alike : (w v : ℤ) → IsWeight w → IsAlike v → unsigned_abs (w *ℤ v) ≤ 4000000000000000
product-alike w v p q =
    let m = mul-le (unsigned_abs w) (unsigned_abs v) 1000 4000000000000 p q in
    rw (unsigned_abs-mul w v) m

-- the sum of the two products is the whole one
parts-sum : (w v : ℤ) → IsWeight w → IsAlike v
    → to_z w64 (low_product (of_z w64 w) (of_z w64 v)) +ℤ to_z w64 (raised_product (of_z w64 w) (of_z w64 v)) ≡ w *ℤ v
parts-sum w v p q =
    let small : unsigned_abs v < 2 ^ 63 = omega arith in
    let l = pos (of_z w64 v % 1048576) in
    let h = shr_z v 1048576 in
    let size = high-product-size w v p q in
    let low-size : unsigned_abs (w *ℤ l) ≤ 1000 * 1048576 =
    let m = mul-le (unsigned_abs w) (unsigned_abs l) 1000 1048576 p (omega arith) in rw (unsigned_abs-mul w l) m in
    let raised-size : unsigned_abs (w *ℤ h *ℤ pos 1048576) ≤ 4000000000 * 1048576 =
    let m = mul-le (unsigned_abs (w *ℤ h)) 1048576 4000000000 1048576 size (omega arith) in rw (unsigned_abs-mul (w *ℤ h) (pos 1048576)) m in
    rw (high-product w v p q, short-is w p, low-bits v, back (w *ℤ l) (omega arith), back (w *ℤ h *ℤ pos 1048576) (omega arith))
    (spread-parts w h l (pos 1048576) ∙ ap (λ z. w *ℤ z) (sym (parts-are v small)))

-- the sum of the two products fits a signed word of 64 bits
pub sum-fits : (w v : ℤ) → IsWeight w → IsAlike v
    → FitsSigned w64 (to_z w64 (low_product (of_z w64 w) (of_z w64 v)) +ℤ to_z w64 (raised_product (of_z w64 w) (of_z w64 v)))
sum-fits w v p q =
    let size = product-alike w v p q in
    rw (parts-sum w v p q) (fits_signed_from_abs w64 (w *ℤ v) (omega arith))

-- the sum of the two products, as the code adds them, is the weight times the value
pub sum-is : (w v : ℤ) → IsWeight w → IsAlike v
    → to_z w64 (of_z w64 (to_z w64 (low_product (of_z w64 w) (of_z w64 v)) +ℤ to_z w64 (raised_product (of_z w64 w) (of_z w64 v)))) ≡ w *ℤ v
sum-is w v p q =
    let size = product-alike w v p q in
    rw (parts-sum w v p q) (back (w *ℤ v) (omega arith))

-- two lanes
abbrev pub Two : List ℤ → List ℤ → Type 0
Two ws vs = (length ws ≡ 2) × (length vs ≡ 2)

-- a fact of two vectors of two lanes
by-lanes : (P : List ℤ → List ℤ → Type 0) → ((a b c d : ℤ) → IsWeight a → IsWeight b → IsAlike c → IsAlike d → P (a ∷ b ∷ []) (c ∷ d ∷ []))
    → (ws vs : List ℤ) → Two ws vs → Each1 IsWeight ws → Each1 IsAlike vs → P ws vs
by-lanes P f (a ∷ b ∷ []) (c ∷ d ∷ []) e p q = f a b c d p.0 p.1.0 q.0 q.1.0
by-lanes P f [] vs e p q = absurd (let n = e.0 in omega (arith, n))
by-lanes P f (a ∷ []) vs e p q = absurd (let n = e.0 in omega (arith, n))
by-lanes P f (a ∷ b ∷ x ∷ xs) vs e p q = absurd (let n = e.0 in omega (arith, n))
by-lanes P f (a ∷ b ∷ []) [] e p q = absurd (let n = e.1 in omega (arith, n))
by-lanes P f (a ∷ b ∷ []) (c ∷ []) e p q = absurd (let n = e.1 in omega (arith, n))
by-lanes P f (a ∷ b ∷ []) (c ∷ d ∷ x ∷ xs) e p q = absurd (let n = e.1 in omega (arith, n))

-- the vectors of the code, as bits
abbrev pub shorts : List ℤ → List ℕ
shorts ws = zip2 (λ a k. of_z w64 (shr_z (to_z w64 a) (2 ^ k))) (zip2 (λ a k. a * 2 ^ k % 2 ^ 64) (map (of_z w64) ws) (32 ∷ 32 ∷ [])) (32 ∷ 32 ∷ [])

abbrev pub highs : List ℤ → List ℕ
highs vs = zip2 (λ a k. of_z w64 (shr_z (to_z w64 a) (2 ^ k))) (zip2 (λ a k. a * 2 ^ k % 2 ^ 64) (map (of_z w64) vs) (12 ∷ 12 ∷ [])) (32 ∷ 32 ∷ [])

abbrev pub lows : List ℤ → List ℕ
lows vs = zip2 bit_and (map (of_z w64) vs) (1048575 ∷ 1048575 ∷ [])

abbrev pub bits_product : ℕ → ℕ → ℕ
bits_product a b = of_z w64 (to_z w64 a *ℤ to_z w64 b)

abbrev pub bits_sum : ℕ → ℕ → ℕ
bits_sum a b = of_z w64 (to_z w64 a +ℤ to_z w64 b)

abbrev pub ProductsFit : List ℕ → List ℕ → Type 0
ProductsFit = Each2 (λ (a b : ℕ). FitsSigned w64 (to_z w64 a *ℤ to_z w64 b))

abbrev pub low_products : List ℤ → List ℤ → List ℕ
low_products ws vs = zip2 bits_product (shorts ws) (lows vs)

abbrev pub high_products : List ℤ → List ℤ → List ℕ
high_products ws vs = zip2 bits_product (shorts ws) (highs vs)

abbrev pub raised_products : List ℤ → List ℤ → List ℕ
raised_products ws vs = zip2 bits_product (high_products ws vs) (1048576 ∷ 1048576 ∷ [])

-- in both lanes the weight times the low part fits a signed word of 64 bits
pub lows-fit : (ws vs : List ℤ) → Two ws vs → Each1 IsWeight ws → Each1 IsAlike vs → ProductsFit (shorts ws) (lows vs)
lows-fit = by-lanes (λ ws vs. ProductsFit (shorts ws) (lows vs)) (λ a b c d p q r s. (low-fits a c p r, (low-fits b d q s, tt)))

-- in both lanes the weight times the high part fits a signed word of 64 bits
pub highs-fit : (ws vs : List ℤ) → Two ws vs → Each1 IsWeight ws → Each1 IsAlike vs → ProductsFit (shorts ws) (highs vs)
highs-fit = by-lanes (λ ws vs. ProductsFit (shorts ws) (highs vs)) (λ a b c d p q r s. (high-fits a c p r, (high-fits b d q s, tt)))

-- in both lanes the product of the high part, raised by 20 bits, fits a signed word of 64 bits
pub raised-fit : (ws vs : List ℤ) → Two ws vs → Each1 IsWeight ws → Each1 IsAlike vs → ProductsFit (high_products ws vs) (1048576 ∷ 1048576 ∷ [])
raised-fit = by-lanes (λ ws vs. ProductsFit (high_products ws vs) (1048576 ∷ 1048576 ∷ [])) (λ a b c d p q r s. (raised-fits a c p r, (raised-fits b d q s, tt)))

-- in both lanes the sum of the two products fits a signed word of 64 bits
pub sums-fit : (ws vs : List ℤ) → Two ws vs → Each1 IsWeight ws → Each1 IsAlike vs
    → Each2 (λ (a b : ℕ). FitsSigned w64 (to_z w64 a +ℤ to_z w64 b)) (low_products ws vs) (raised_products ws vs)
sums-fit = by-lanes (λ ws vs. Each2 (λ (a b : ℕ). FitsSigned w64 (to_z w64 a +ℤ to_z w64 b)) (low_products ws vs) (raised_products ws vs))
    (λ a b c d p q r s. (sum-fits a c p r, (sum-fits b d q s, tt)))

-- what the sum of the two vectors of products gives as bits stands for the weights times the values
pub sums-are : (ws vs : List ℤ) → Two ws vs → Each1 IsWeight ws → Each1 IsAlike vs
    → map (to_z w64) (zip2 bits_sum (low_products ws vs) (raised_products ws vs)) ≡ zip2 (λ w v. w *ℤ v) ws vs
sums-are = by-lanes (λ ws vs. map (to_z w64) (zip2 bits_sum (low_products ws vs) (raised_products ws vs)) ≡ zip2 (λ w v. w *ℤ v) ws vs)
    (λ a b c d p q r s i. sum-is a c p r i ∷ sum-is b d q s i ∷ [])
