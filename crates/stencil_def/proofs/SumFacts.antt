-- Sums of whole numbers and how great they are. A sum of n summands of at most m each is at most n m in size, which
-- stays below 2^63, so in words of 64 bits each sum and product is the true one.
use Rattle.std.proofs.Common.{◌≡◌, refl, ap, ℕ, ◌+◌, ◌*◌, ◌≤◌, ℤ, pos, ◌+ℤ◌, ◌*ℤ◌, unsigned_abs, ◌<◌, ◌^◌, ◌∙◌, sym, FitsSigned, to_z, of_z, w64, arith, add-one}
use Rattle.std.proofs.lemmas.Int.{ints, unsigned_abs-mul, to_z-of_z, fits_signed_from_abs, fits_signed_mul}
use Rattle.std.proofs.lemmas.Nat.{mul-le}
use Rattle.stencil_def.specs.Limits.{IsValue, IsWeight}
use Rattle.stencil_def.specs.declared.rule.Rule.{Rule}
use Rattle.stencil_def.specs.Plane.{Plane}
use Rattle.stencil_def.specs.Step.{sum_below, read}

-- a sum of no summands is 0
pub sum-none : (f : ℕ → ℤ) → sum_below 0 f ≡ pos 0
unfolding sum_below
sum-none f = refl

-- a sum of n + 1 summands is the sum of the first n, and the last added to it
pub sum-more : (n : ℕ) (f : ℕ → ℤ) → sum_below (n + 1) f ≡ sum_below n f +ℤ f n
unfolding sum_below
sum-more n f = rw add-one refl

-- a weight times a value is at most 10^15 in size
pub product-small : (a b : ℤ) → IsWeight a → IsValue b → unsigned_abs (a *ℤ b) ≤ 1000000000000000
product-small a b p q =
    let m = mul-le (unsigned_abs a) (unsigned_abs b) 1000 1000000000000 p q in
    rw (unsigned_abs-mul a b) m

-- where a sum is at most n m in size, it is at most (n + 1) m with one more summand of at most m
pub sum-small : (s x : ℤ) (n m : ℕ) → unsigned_abs s ≤ n * m → unsigned_abs x ≤ m → unsigned_abs (s +ℤ x) ≤ (n + 1) * m
sum-small s x n m p q = omega (arith, ints)

-- a number below 2^63 in size comes back from its 64 bits
pub exact : (z : ℤ) → unsigned_abs z < 2 ^ 63 → to_z w64 (of_z w64 z) ≡ z
exact z h = to_z-of_z w64 z (fits_signed_from_abs w64 z h)

-- one more summand, as the code adds it
pub add-exact : (s x : ℤ) (n m : ℕ) → unsigned_abs s ≤ n * m → unsigned_abs x ≤ m → (n + 1) * m < 2 ^ 63 → m < 2 ^ 63
    → to_z w64 (of_z w64 (s +ℤ to_z w64 (of_z w64 x))) ≡ s +ℤ x
add-exact s x n m p q small least =
    let h = sum-small s x n m p q in
    let here : unsigned_abs x < 2 ^ 63 = omega arith in
    let total : unsigned_abs (s +ℤ x) < 2 ^ 63 = omega arith in
    rw (exact x here, exact (s +ℤ x) total) refl

-- the sum with one more summand fits a signed word of 64 bits
pub add-fits : (s x : ℤ) (n m : ℕ) → unsigned_abs s ≤ n * m → unsigned_abs x ≤ m → (n + 1) * m < 2 ^ 63 → m < 2 ^ 63
    → FitsSigned w64 (s +ℤ to_z w64 (of_z w64 x))
add-fits s x n m p q small least =
    let h = sum-small s x n m p q in
    let here : unsigned_abs x < 2 ^ 63 = omega arith in
    let total : unsigned_abs (s +ℤ x) < 2 ^ 63 = omega arith in
    rw (exact x here) (fits_signed_from_abs w64 (s +ℤ x) total)

-- the sum over n places with the next summand, as the code adds it, is the sum over n + 1 places
pub add-value : (s x : ℤ) (f : ℕ → ℤ) (n m : ℕ) → s ≡ sum_below n f → x ≡ f n
    → unsigned_abs s ≤ n * m → unsigned_abs x ≤ m → (n + 1) * m < 2 ^ 63 → m < 2 ^ 63
    → to_z w64 (of_z w64 (s +ℤ to_z w64 (of_z w64 x))) ≡ sum_below (n + 1) f
add-value s x f n m v w p q small least =
    add-exact s x n m p q small least ∙ (ap (λ t. t +ℤ x) v ∙ (ap (λ t. sum_below n f +ℤ t) w ∙ sym (sum-more n f)))

-- the sum with one more summand, as the code adds it, is at most (n + 1) m in size
pub add-small : (s x : ℤ) (n m : ℕ) → unsigned_abs s ≤ n * m → unsigned_abs x ≤ m → (n + 1) * m < 2 ^ 63 → m < 2 ^ 63
    → unsigned_abs (to_z w64 (of_z w64 (s +ℤ to_z w64 (of_z w64 x)))) ≤ (n + 1) * m
add-small s x n m p q small least =
    let h = sum-small s x n m p q in rw (add-exact s x n m p q small least) h

-- a value comes back from its 64 bits
pub value-exact : (v : ℤ) → IsValue v → to_z w64 (of_z w64 v) ≡ v
value-exact v q = exact v (omega arith)

-- the product of a weight and a value, each taken from its 64 bits, fits a signed word of 64 bits
pub product-fits : (a v : ℤ) → IsWeight a → IsValue v → FitsSigned w64 (to_z w64 (of_z w64 a) *ℤ to_z w64 (of_z w64 v))
product-fits a v p q =
    rw (exact a (omega arith), value-exact v q) (fits_signed_mul w64 a v 1000 1000000000000 p q (omega arith))

-- a weight times a value, as the code multiplies them, is their product
pub product-exact : (a v : ℤ) → IsWeight a → IsValue v
    → to_z w64 (of_z w64 (to_z w64 (of_z w64 a) *ℤ to_z w64 (of_z w64 v))) ≡ a *ℤ v
product-exact a v p q =
    let h = product-small a v p q in
    let total : unsigned_abs (a *ℤ v) < 2 ^ 63 = omega arith in
    rw (exact a (omega arith), value-exact v q, exact (a *ℤ v) total) refl

-- a row and a column of at most 10^10 in size, taken from their 64 bits, read the same cell
pub read-exact : (g : Plane) (rule : Rule) (y x : ℤ) → unsigned_abs y ≤ 10000000000 → unsigned_abs x ≤ 10000000000
    → read g rule (to_z w64 (of_z w64 y)) (to_z w64 (of_z w64 x)) ≡ read g rule y x
read-exact g rule y x p q = rw (exact y (omega arith), exact x (omega arith)) refl
