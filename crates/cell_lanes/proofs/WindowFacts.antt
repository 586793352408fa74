-- Sums over a window, and how great they are. Both lanes go through the weights in one order, and with each weight or
-- row the limit of the sum so far grows by that of one more summand.
use Rattle.std.proofs.Common.{◌≡◌, ◌∙◌, sym, ap, ℕ, ◌+◌, ◌*◌, ◌≤◌, ◌<◌, ℤ, pos, ◌+ℤ◌, ◌*ℤ◌, unsigned_abs, List, map, length, get_or, set, get_or-set_same, get_or-set_other, subst, ◌-◌, int_div, to_z, of_z, w64, inl, inr, arith}
use Rattle.std.specs.Simd.Lanes.{zip2, chunk, put_chunk}
use Rattle.std.proofs.lemmas.Simd.{get_or-put_chunk_below, get_or-put_chunk_at}
use Rattle.std.specs.List.{All}
use Rattle.std.proofs.lemmas.Bool.{cases_lt}
use Rattle.std.proofs.lemmas.Nat.{mul-le}
use Rattle.std.proofs.lemmas.List.{get_or_past, get_or-map}
use Rattle.std.proofs.lemmas.List.Elements.{All-get_or}
use Rattle.stencil_def.specs.Limits.{IsWeight, IsValue}
use Rattle.stencil_def.specs.Square.{Square, weight}
use Rattle.stencil_def.specs.Step.{sum_below, clamped}
use Rattle.stencil_def.proofs.SumFacts.{sum-more, sum-small}
use Rattle.cell_lanes.specs.Window.{met, row_sum_at, sum_at}
use Rattle.cell_lanes.specs.Lanes.{two}
use Rattle.cell_lanes.specs.Parts.{IsRowSum}
use Rattle.cell_lanes.specs.Sizes.{IsSum}
use Rattle.cell_lanes.proofs.LaneFacts.{back, product-size}
use Rattle.cell_lanes.proofs.TwoFacts.{two-at, two-same, chunk-two, added}

-- by cases on the order of two numbers
pub below-or : {P : Type 0} (x n : ℕ) → (x < n → P) → (n ≤ x → P) → P
below-or x n p q = elim (cases_lt x n) [ inl h ↦ p h | inr h ↦ q h ]

-- a value in range, also where the default stands behind the end
pub value-at : (xs : List ℤ) (k : ℕ) → All IsValue xs → IsValue (get_or xs k (pos 0))
value-at xs k h = grind (arith, All-get_or IsValue xs k (pos 0), get_or_past xs k (pos 0))

-- a weight times the value that it meets
abbrev pub product_at : Square → List ℤ → ℕ → ℕ → ℕ → ℕ → ℤ
product_at w window width x a b = weight w a b *ℤ met window width x a b

-- the sum over the first n weights of row a
abbrev pub row_below : Square → List ℤ → ℕ → ℕ → ℕ → ℕ → ℤ
row_below w window width x a n = sum_below n (λ b. product_at w window width x a b)

-- the sum over the first n rows
abbrev pub rows_below : Square → List ℤ → ℕ → ℕ → ℕ → ℤ
rows_below w window width x n = sum_below n (λ a. row_sum_at w window width x a)

-- where the sum over n weights of a row is at most n * 10^15 in size, that over n + 1 is at most (n + 1) * 10^15
pub row-more : (w : Square) (window : List ℤ) (width x a n : ℕ) (t : ℤ) → t ≡ weight w a n → IsWeight t → All IsValue window
    → unsigned_abs (row_below w window width x a n) ≤ n * 1000000000000000
    → unsigned_abs (row_below w window width x a (n + 1)) ≤ (n + 1) * 1000000000000000
row-more w window width x a n t e p h small =
    let v = met window width x a n in
    let product : unsigned_abs (weight w a n *ℤ v) ≤ 1000000000000000 = rw (sym e) (product-size t v p (value-at window (a * width + (x + n)) h)) in
    rw (sum-more n (λ b. product_at w window width x a b)) (sum-small (row_below w window width x a n) (weight w a n *ℤ v) n 1000000000000000 small product)

-- two neighbouring values, as the weights meet them
pub met-two : (window : List ℤ) (width x a n at : ℕ) → at ≡ a * width + x + n → at + 2 ≤ length window
    → chunk at 2 window ≡ two (λ i. met window width (x + i) a n)
met-two window width x a n at e h =
    chunk-two window at h
    ∙ two-same (λ i. get_or window (at + i) (pos 0)) (λ i. met window width (x + i) a n)
    (λ i. let same : at + i ≡ a * width + (x + i + n) = omega arith in ap (λ k. get_or window k (pos 0)) same)

-- one more weight of a row, in two lanes
pub row-next : (w : Square) (window : List ℤ) (width x a n : ℕ) (sums products total : List ℤ)
    → sums ≡ two (λ i. row_below w window width (x + i) a n)
    → ((i : ℕ) → unsigned_abs (row_below w window width (x + i) a (n + 1)) ≤ (n + 1) * 1000000000000000)
    → n < 5 → products ≡ two (λ i. product_at w window width (x + i) a n)
    → total ≡ zip2 (λ a b. a +ℤ b) sums products
    → map (to_z w64) (map (of_z w64) total) ≡ two (λ i. row_below w window width (x + i) a (n + 1))
row-next w window width x a n sums products total is small few new plus =
    let more : (i : ℕ) → row_below w window width (x + i) a (n + 1) ≡ row_below w window width (x + i) a n +ℤ product_at w window width (x + i) a n =
    λ i. sum-more n (λ b. product_at w window width (x + i) a b) in
    added sums products total (λ i. row_below w window width (x + i) a n) (λ i. product_at w window width (x + i) a n)
    (λ i. row_below w window width (x + i) a (n + 1)) is new (λ i. sym (more i)) (λ i. let s = small i in omega arith) plus

-- two values from one that a weight meets stand before the window's end
pub room : (width a x b reach h size : ℕ) → size ≡ (2 * h + 1) * width → reach ≡ h → a < 2 * h + 1 → x + 2 + 2 * reach ≤ width → b < 2 * reach + 1
    → a * width + x + b + 2 ≤ size
room width a x b reach h size e same row column below =
    let m = mul-le (a + 1) width (2 * h + 1) width (omega arith) (omega arith) in
    omega (arith, m)

-- one more row, in two lanes
pub rows-next : (w : Square) (window : List ℤ) (width x n : ℕ) (sums row total : List ℤ)
    → sums ≡ two (λ i. rows_below w window width (x + i) n)
    → ((i : ℕ) → unsigned_abs (rows_below w window width (x + i) (n + 1)) ≤ (n + 1) * 5000000000000000)
    → n < 5 → row ≡ two (λ i. row_sum_at w window width (x + i) n)
    → total ≡ zip2 (λ a b. a +ℤ b) sums row
    → map (to_z w64) (map (of_z w64) total) ≡ two (λ i. rows_below w window width (x + i) (n + 1))
rows-next w window width x n sums row total is small few new plus =
    let more : (i : ℕ) → rows_below w window width (x + i) (n + 1) ≡ rows_below w window width (x + i) n +ℤ row_sum_at w window width (x + i) n =
    λ i. sum-more n (λ a. row_sum_at w window width (x + i) a) in
    added sums row total (λ i. rows_below w window width (x + i) n) (λ i. row_sum_at w window width (x + i) n)
    (λ i. rows_below w window width (x + i) (n + 1)) is new (λ i. sym (more i)) (λ i. let s = small i in omega arith) plus

-- where the sum over n rows is at most n * 5 * 10^15 in size, that over n + 1 is at most (n + 1) * 5 * 10^15
pub rows-more : (w : Square) (window : List ℤ) (width x n : ℕ) → IsRowSum (row_sum_at w window width x n)
    → unsigned_abs (rows_below w window width x n) ≤ n * 5000000000000000
    → unsigned_abs (rows_below w window width x (n + 1)) ≤ (n + 1) * 5000000000000000
rows-more w window width x n size small =
    rw (sum-more n (λ a. row_sum_at w window width x a)) (sum-small (rows_below w window width x n) (row_sum_at w window width x n) n 5000000000000000 small size)

-- a product, as the code makes it
pub product-met : (w : Square) (window : List ℤ) (width x a n : ℕ) (t p : ℤ) → t ≡ weight w a n → IsWeight t → All IsValue window
    → p ≡ to_z w64 (of_z w64 t) *ℤ to_z w64 (of_z w64 (get_or window (a * width + x + n) (pos 0)))
    → p ≡ product_at w window width x a n
product-met w window width x a n t p e small h made =
    let value = value-at window (a * width + x + n) h in
    let place : a * width + x + n ≡ a * width + (x + n) = omega arith in
    made ∙ (ap (λ z. z *ℤ to_z w64 (of_z w64 (get_or window (a * width + x + n) (pos 0)))) (back t (omega arith) ∙ e)
    ∙ (ap (λ z. weight w a n *ℤ z) (back (get_or window (a * width + x + n) (pos 0)) (omega arith)) ∙ ap (λ k. weight w a n *ℤ get_or window k (pos 0)) place))

-- the first n sums are in place, and in range
abbrev pub DoneBelow : Square → List ℤ → ℕ → List ℤ → ℕ → Type 0
DoneBelow w window width out n = (x : ℕ) → x < n → (get_or out x (pos 0) ≡ sum_at w window width x) × IsSum (sum_at w window width x)

-- two more of them, stored at n
pub done-two : (w : Square) (window : List ℤ) (width n : ℕ) (out lanes : List ℤ)
    → DoneBelow w window width out n → n + 2 ≤ length out → lanes ≡ two (λ i. sum_at w window width (n + i))
    → ((i : ℕ) → IsSum (sum_at w window width (n + i)))
    → DoneBelow w window width (put_chunk n out lanes) (n + 2)
done-two w window width n out lanes done size is small x less =
    let long : length lanes ≡ 2 = ap length is in
    let below : x < n → (get_or (put_chunk n out lanes) x (pos 0) ≡ sum_at w window width x) × IsSum (sum_at w window width x) =
    λ h. (get_or-put_chunk_below n out lanes x (pos 0) h ∙ (done x h).0, (done x h).1) in
    let stored : (j : ℕ) → j < 2 → get_or (put_chunk n out lanes) (n + j) (pos 0) ≡ sum_at w window width (n + j) =
    λ j h. get_or-put_chunk_at n out lanes j (pos 0) (omega arith) (omega arith) ∙ (ap (λ l. get_or l j (pos 0)) is ∙ two-at (λ i. sum_at w window width (n + i)) j h) in
    let there : n ≤ x → (get_or (put_chunk n out lanes) x (pos 0) ≡ sum_at w window width x) × IsSum (sum_at w window width x) =
    λ h. let same : n + (x - n) ≡ x = omega arith in
    subst (λ m. (get_or (put_chunk n out lanes) m (pos 0) ≡ sum_at w window width m) × IsSum (sum_at w window width m)) same (stored (x - n) (omega arith), small (x - n)) in
    below-or x n below there

-- one more of them
pub done-one : (w : Square) (window : List ℤ) (width n : ℕ) (out : List ℤ) (sum : ℤ)
    → DoneBelow w window width out n → n < length out → sum ≡ sum_at w window width n → IsSum sum
    → DoneBelow w window width (set out n (to_z w64 (of_z w64 sum))) (n + 1)
done-one w window width n out sum done size e small x less =
    let is : to_z w64 (of_z w64 sum) ≡ sum_at w window width n = back sum (omega arith) ∙ e in
    let below : x < n → (get_or (set out n (to_z w64 (of_z w64 sum))) x (pos 0) ≡ sum_at w window width x) × IsSum (sum_at w window width x) =
    λ h. (get_or-set_other out n x (to_z w64 (of_z w64 sum)) (pos 0) (omega arith) ∙ (done x h).0, (done x h).1) in
    let there : n ≤ x → (get_or (set out n (to_z w64 (of_z w64 sum))) x (pos 0) ≡ sum_at w window width x) × IsSum (sum_at w window width x) =
    λ h. let same : n ≡ x = omega arith in
    subst (λ m. (get_or (set out n (to_z w64 (of_z w64 sum))) m (pos 0) ≡ sum_at w window width m) × IsSum (sum_at w window width m)) same
    (get_or-set_same out n (to_z w64 (of_z w64 sum)) (pos 0) size ∙ is, subst IsSum e small) in
    below-or x n below there

-- the sums of a row, divided
pub new-at : (w : Square) (window : List ℤ) (width n x : ℕ) (d : ℤ) (sums new : List ℤ) → length sums ≡ n
    → ((k : ℕ) → k < n → get_or sums k (pos 0) ≡ sum_at w window width k)
    → new ≡ map (λ sum. clamped (int_div sum d)) sums
    → x < n → get_or new x (pos 0) ≡ clamped (int_div (sum_at w window width x) d)
new-at w window width n x d sums new long each made less =
    ap (λ l. get_or l x (pos 0)) made
    ∙ (get_or-map (λ s. clamped (int_div s d)) sums x (pos 0) (pos 0) (omega arith) ∙ ap (λ s. clamped (int_div s d)) (each x less))
