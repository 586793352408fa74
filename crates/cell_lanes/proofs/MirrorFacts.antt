-- Sums over mirrored weights. Where equal weights stand on both sides of the middle, the values that they meet are
-- added first, so one product stands for up to four, and the sum stays the same.
use Rattle.std.proofs.Common.{◌≡◌, ◌∙◌, refl, sym, ap, ℕ, zero, suc, ◌+◌, ◌-◌, ◌*◌, ◌<◌, ◌≤◌, ℤ, ◌+ℤ◌, ◌*ℤ◌, unsigned_abs, List, inl, inr, arith, rules}
use Rattle.std.specs.List.{All}
use Rattle.std.proofs.lemmas.Int.{ints}
use Rattle.std.proofs.lemmas.Bool.{cases_lt}
use Rattle.stencil_def.specs.Limits.{IsWithin, IsValue}
use Rattle.stencil_def.specs.Square.{Square, side, weight}
use Rattle.stencil_def.specs.Step.{sum_below}
use Rattle.stencil_def.proofs.SumFacts.{sum-small}
use Rattle.cell_lanes.specs.Mirror.{both, HasLimits, IsMirrored, row_alike, alike, alike_row_sum}
use Rattle.cell_lanes.specs.Parts.{IsAlike}
use Rattle.cell_lanes.specs.Sizes.{IsSum}
use Rattle.cell_lanes.specs.Window.{met, row_sum_at, sum_at}
use Rattle.cell_lanes.proofs.LaneFacts.{product-size}
use Rattle.cell_lanes.proofs.ProductFacts.{spread}
use Rattle.cell_lanes.proofs.WindowFacts.{value-at}

-- before the middle, and at it
pub both-before : (r : ℕ) (f : ℕ → ℤ) (a : ℕ) → a < r → both r f a ≡ f a +ℤ f (2 * r - a)
unfolding both
both-before r f a h = search rules

-- at the middle, and behind it, a place counts alone
pub both-middle : (r : ℕ) (f : ℕ → ℤ) (a : ℕ) → r ≤ a → both r f a ≡ f a
unfolding both
both-middle r f a h = search rules

both-size : (r : ℕ) (f : ℕ → ℤ) (a m : ℕ) → ((k : ℕ) → unsigned_abs (f k) ≤ m) → unsigned_abs (both r f a) ≤ 2 * m
both-size r f a m h =
    let here = h a in
    let there = h (2 * r - a) in
    elim (cases_lt a r) [
      | inl l ↦ rw (both-before r f a l) (omega (arith, ints, here, there))
      | inr g ↦ rw (both-middle r f a g) (omega (arith, here))
    ]

-- sums of equal summands, of two sums, and how great a sum is
sum-same : (n : ℕ) (f g : ℕ → ℤ) → ((k : ℕ) → k < n → f k ≡ g k) → sum_below n f ≡ sum_below n g
unfolding sum_below
sum-same zero f g e = refl
sum-same (suc n) f g e =
    let before = sum-same n f g (λ k h. e k (omega arith)) in
    let last = e n (omega arith) in
    λ i. before i +ℤ last i

sum-plus : (n : ℕ) (f g : ℕ → ℤ) → sum_below n f +ℤ sum_below n g ≡ sum_below n (λ k. f k +ℤ g k)
unfolding sum_below
sum-plus zero f g = refl
sum-plus (suc n) f g = let before = sum-plus n f g in omega (arith, ints, before)

-- a sum of n summands of at most m each is at most n m in size
pub sum-size : (n m : ℕ) (f : ℕ → ℤ) → ((k : ℕ) → k < n → unsigned_abs (f k) ≤ m) → unsigned_abs (sum_below n f) ≤ n * m
unfolding sum_below
sum-size zero m f h = omega arith
sum-size (suc n) m f h = let s = sum-small (sum_below n f) (f n) n m (sum-size n m f (λ k l. h k (omega arith))) (h n (omega arith)) in omega (arith, s)

-- a sum over all places is one over those up to the middle
fold : (r : ℕ) (f : ℕ → ℤ) → IsWithin 1 2 r → sum_below (2 * r + 1) f ≡ sum_below (r + 1) (both r f)
unfolding sum_below both
fold zero f h = absurd (let l = h.0 in omega (arith, l))
fold (suc zero) f h = omega (arith, ints)
fold (suc (suc zero)) f h = omega (arith, ints)
fold (suc (suc (suc r))) f h = absurd (let l = h.1 in omega (arith, l))

-- a row whose weights are those of row a, on both sides of the middle
row-fold : (w : Square) (window : List ℤ) (width x a row : ℕ) → IsWithin 1 2 w.reach
    → ((b : ℕ) → b ≤ w.reach → (weight w row b ≡ weight w a b) × (weight w row (2 * w.reach - b) ≡ weight w a b))
    → row_sum_at w window width x row ≡ sum_below (w.reach + 1) (λ b. weight w a b *ℤ row_alike window width w.reach x row b)
row-fold w window width x a row near same =
    let r = w.reach in
    let m : ℕ → ℤ = λ b. met window width x row b in
    let p : ℕ → ℤ = λ b. weight w row b *ℤ m b in
    fold r p near
    ∙ sum-same (r + 1) (both r p) (λ b. weight w a b *ℤ both r m b) (λ b h. elim (cases_lt b r) [
      | inl l ↦ both-before r p b l
          ∙ ((λ i. (same b (omega arith)).0 i *ℤ m b +ℤ (same b (omega arith)).1 i *ℤ m (2 * r - b))
          ∙ (sym (spread (weight w a b) (m b) (m (2 * r - b))) ∙ ap (λ z. weight w a b *ℤ z) (sym (both-before r m b l))))
      | inr g ↦ both-middle r p b g
          ∙ (ap (λ z. z *ℤ m b) (same b (omega arith)).0 ∙ ap (λ z. weight w a b *ℤ z) (sym (both-middle r m b g)))
    ])

-- a row and the one across the middle
rows-fold : (w : Square) (window : List ℤ) (width x a : ℕ) → IsWithin 1 2 w.reach → IsMirrored w → a < w.reach + 1
    → both w.reach (λ row. row_sum_at w window width x row) a ≡ alike_row_sum w window width x a
rows-fold w window width x a near mirrored few =
    let r = w.reach in
    let rows : ℕ → ℤ = λ row. row_sum_at w window width x row in
    let own : (b : ℕ) → b ≤ r → (weight w a b ≡ weight w a b) × (weight w a (2 * r - b) ≡ weight w a b) =
    λ b h. (refl, (mirrored a b (omega arith) h).0) in
    let across : (b : ℕ) → b ≤ r → (weight w (2 * r - a) b ≡ weight w a b) × (weight w (2 * r - a) (2 * r - b) ≡ weight w a b) =
    λ b h. ((mirrored a b (omega arith) h).1.0, (mirrored a b (omega arith) h).1.1) in
    let term : ℕ → ℕ → ℤ = λ row b. row_alike window width r x row b in
    elim (cases_lt a r) [
      | inl l ↦ both-before r rows a l
          ∙ ((λ i. row-fold w window width x a a near own i +ℤ row-fold w window width x a (2 * r - a) near across i)
          ∙ (sum-plus (r + 1) (λ b. weight w a b *ℤ term a b) (λ b. weight w a b *ℤ term (2 * r - a) b)
          ∙ sum-same (r + 1) (λ b. weight w a b *ℤ term a b +ℤ weight w a b *ℤ term (2 * r - a) b) (λ b. weight w a b *ℤ alike window width r x a b)
          (λ b h. sym (spread (weight w a b) (term a b) (term (2 * r - a) b)) ∙ ap (λ z. weight w a b *ℤ z) (sym (both-before r (λ row. term row b) a l)))))
      | inr g ↦ both-middle r rows a g
          ∙ (row-fold w window width x a a near own
          ∙ sum-same (r + 1) (λ b. weight w a b *ℤ term a b) (λ b. weight w a b *ℤ alike window width r x a b)
          (λ b h. ap (λ z. weight w a b *ℤ z) (sym (both-middle r (λ row. term row b) a g))))
    ]

-- the sum over a window
pub mirrored-sum : (w : Square) (window : List ℤ) (width x : ℕ) → IsWithin 1 2 w.reach → IsMirrored w
    → sum_below (w.reach + 1) (λ a. alike_row_sum w window width x a) ≡ sum_at w window width x
mirrored-sum w window width x near mirrored =
    let rows : ℕ → ℤ = λ a. row_sum_at w window width x a in
    sym (fold w.reach rows near
    ∙ sum-same (w.reach + 1) (both w.reach rows) (λ a. alike_row_sum w window width x a) (λ a h. rows-fold w window width x a near mirrored h))

-- how great these are
pub row-alike-size : (window : List ℤ) (width r x a b : ℕ) → All IsValue window → unsigned_abs (row_alike window width r x a b) ≤ 2000000000000
row-alike-size window width r x a b h =
    both-size r (λ column. met window width x a column) b 1000000000000 (λ k. value-at window (a * width + (x + k)) h)

-- the sum of the values that meet equal weights, at most four, is at most 4 * 10^12 in size
pub alike-size : (window : List ℤ) (width r x a b : ℕ) → All IsValue window → IsAlike (alike window width r x a b)
alike-size window width r x a b h =
    both-size r (λ row. row_alike window width r x row b) a 2000000000000 (λ row. row-alike-size window width r x row b h)

-- a sum over a window in which weights and values are in range is at most 25 * 10^15 in size
pub window-size : (w : Square) (window : List ℤ) (width x : ℕ) → w.reach ≤ 2 → HasLimits w → All IsValue window
    → IsSum (sum_at w window width x)
window-size w window width x near weights values =
    let row : (a : ℕ) → a < side w → unsigned_abs (row_sum_at w window width x a) ≤ 5 * 1000000000000000 =
    λ a h. let s = sum-size (side w) 1000000000000000 (λ b. weight w a b *ℤ met window width x a b)
    (λ b l. product-size (weight w a b) (met window width x a b) (weights a b h l) (value-at window (a * width + (x + b)) values)) in omega (arith, s, near) in
    let all = sum-size (side w) 5000000000000000 (λ a. row_sum_at w window width x a) row in
    omega (arith, all, near)

-- the sum over the first n weights of row a, each times the values that meet equal weights
abbrev pub alike_at : Square → List ℤ → ℕ → ℕ → ℕ → ℕ → ℤ
alike_at w window width x a b = weight w a b *ℤ alike window width w.reach x a b

abbrev pub alike_below : Square → List ℤ → ℕ → ℕ → ℕ → ℕ → ℤ
alike_below w window width x a n = sum_below n (λ b. alike_at w window width x a b)

-- the sum over the first n of these rows
abbrev pub alike_rows_below : Square → List ℤ → ℕ → ℕ → ℕ → ℤ
alike_rows_below w window width x n = sum_below n (λ a. alike_row_sum w window width x a)
