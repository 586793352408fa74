-- Vectors of two lanes: each is written as f 0 and f 1, so a fact of each value of f is one of both lanes.
use Rattle.std.proofs.Common.{◌≡◌, ◌∙◌, refl, subst, ℕ, zero, suc, ◌+◌, ◌≤◌, ◌<◌, ◌^◌, ℤ, pos, ◌+ℤ◌, ◌*ℤ◌, unsigned_abs, to_z, of_z, w64, List, [], ◌∷◌, map, length, get_or, arith}
use Rattle.std.proofs.lemmas.Simd.{length-chunk, get_or-chunk}
use Rattle.std.specs.Simd.Lanes.{zip2, Each1, chunk}
use Rattle.cell_lanes.specs.Lanes.{two}
use Rattle.cell_lanes.proofs.LaneFacts.{back}

-- functions of the same values make the same two lanes
pub two-same : (f g : ℕ → ℤ) → ((k : ℕ) → f k ≡ g k) → two f ≡ two g
two-same f g e = λ i. two (λ k. e k i)

-- a fact of each value of f holds in both lanes
pub two-all : (P : ℤ → Type 0) (f : ℕ → ℤ) → ((k : ℕ) → P (f k)) → Each1 P (two f)
two-all P f h = (h 0, (h 1, tt))

-- a vector, as it is loaded from its bits
pub two-back : (vs : List ℤ) (f : ℕ → ℤ) → vs ≡ two f → ((k : ℕ) → unsigned_abs (f k) < 2 ^ 63) → map (to_z w64) (map (of_z w64) vs) ≡ two f
two-back vs f e h = rw e (two-same (λ k. to_z w64 (of_z w64 (f k))) f (λ k. back (f k) (h k)))

list-two : (xs : List ℤ) → length xs ≡ 2 → xs ≡ two (λ k. get_or xs k (pos 0))
list-two [] e = absurd (omega arith)
list-two (a ∷ []) e = absurd (omega arith)
list-two (a ∷ b ∷ []) e = refl
list-two (a ∷ b ∷ x ∷ xs) e = absurd (omega arith)

-- two neighbouring values
pub chunk-two : (xs : List ℤ) (at : ℕ) → at + 2 ≤ length xs → chunk at 2 xs ≡ two (λ k. get_or xs (at + k) (pos 0))
chunk-two xs at h =
    let one : (k : ℕ) → k < 2 → get_or (chunk at 2 xs) k (pos 0) ≡ get_or xs (at + k) (pos 0) = λ k lt. get_or-chunk at 2 xs k (pos 0) lt in
    list-two (chunk at 2 xs) (length-chunk at 2 xs h) ∙ (λ i. one 0 (omega arith) i ∷ one 1 (omega arith) i ∷ [])

-- lane k holds f k
pub two-at : (f : ℕ → ℤ) (k : ℕ) → k < 2 → get_or (two f) k (pos 0) ≡ f k
two-at f zero h = refl
two-at f (suc zero) h = refl
two-at f (suc (suc k)) h = absurd (omega arith)

-- two sums, and two more added to them
pub added : (sums more total : List ℤ) (s m t : ℕ → ℤ) → sums ≡ two s → more ≡ two m → ((k : ℕ) → s k +ℤ m k ≡ t k)
    → ((k : ℕ) → unsigned_abs (t k) < 2 ^ 63) → total ≡ zip2 (λ a b. a +ℤ b) sums more
    → map (to_z w64) (map (of_z w64) total) ≡ two t
added sums more total s m t is new same fits made =
    two-back total t (made ∙ ((λ i. zip2 (λ a b. a +ℤ b) (is i) (new i)) ∙ two-same (λ k. s k +ℤ m k) t same)) fits

-- the products of two vectors
pub multiplied : (weights values products : List ℤ) (w v : ℕ → ℤ) → weights ≡ two w → values ≡ two v
    → ((k : ℕ) → unsigned_abs (w k) < 2 ^ 63) → ((k : ℕ) → unsigned_abs (v k) < 2 ^ 63)
    → products ≡ zip2 (λ a b. a *ℤ b) (map (to_z w64) (map (of_z w64) weights)) (map (to_z w64) (map (of_z w64) values))
    → products ≡ two (λ k. w k *ℤ v k)
multiplied weights values products w v is has small few made =
    made ∙ (λ i. zip2 (λ a b. a *ℤ b) (two-back weights w is small i) (two-back values v has few i))

-- a fact of each lane
pub each-two : (P : ℤ → Type 0) (vs : List ℤ) (f : ℕ → ℤ) → vs ≡ two f → ((k : ℕ) → P (f k)) → Each1 P vs
each-two P vs f e h = rw e (two-all P f h)

-- the same of its bits
pub each-bits : (P : ℤ → Type 0) (vs : List ℤ) (f : ℕ → ℤ) → vs ≡ two f → ((k : ℕ) → P (f k)) → ((k : ℕ) → unsigned_abs (f k) < 2 ^ 63)
    → Each1 P (map (to_z w64) (map (of_z w64) vs))
each-bits P vs f e h small = each-two P (map (to_z w64) (map (of_z w64) vs)) f (two-back vs f e small) h

-- a vector of two lanes, taken from its bits, has two lanes
pub long-bits : (vs : List ℤ) (f : ℕ → ℤ) → vs ≡ two f → length (map (to_z w64) (map (of_z w64) vs)) ≡ 2
long-bits vs f e = rw e refl

-- a fact of a vector, as one of its first lane
pub first-of : (P : ℤ → Type 0) (vs : List ℤ) (f : ℕ → ℤ) → vs ≡ two f → Each1 P vs → P (f 0)
first-of P vs f e h = (subst (Each1 P) e h).0
