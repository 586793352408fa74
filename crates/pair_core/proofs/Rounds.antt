-- Rounds and their places, at a depth from 1 to 4: the facts of remainders are shown at each of the four depths.
use Rattle.std.proofs.Common.{◌≡◌, ◌≢◌, inl, inr, ℕ, zero, suc, ◌+◌, ◌-◌, ◌%◌, ◌<◌, ◌≤◌, Bool, refl, sym, ◌∙◌, subst, arith}
use Rattle.std.specs.Prelude.{if◌then◌else◌}
use Rattle.std.proofs.lemmas.Bool.{cases_lt, cases_eq, eq-eqb, ne_eqb}
use Rattle.pair_core.specs.Reading.{last_round}

-- what holds at each depth
pub each_depth : (depth : ℕ) (P : ℕ → Type 0) → 1 ≤ depth → depth ≤ 4 → P 1 → P 2 → P 3 → P 4 → P depth
each_depth zero P low high a b c d = absurd (omega arith)
each_depth (suc zero) P low high a b c d = a
each_depth (suc (suc zero)) P low high a b c d = b
each_depth (suc (suc (suc zero))) P low high a b c d = c
each_depth (suc (suc (suc (suc zero)))) P low high a b c d = d
each_depth (suc (suc (suc (suc (suc n))))) P low high a b c d = absurd (omega arith)

-- a place is below the depth
pub place_lt : (depth k : ℕ) → 1 ≤ depth → depth ≤ 4 → k % depth < depth
place_lt depth k low high = each_depth depth (λ n. k % n < n) low high (omega arith) (omega arith) (omega arith) (omega arith)

-- two rounds less than `depth` apart have different places
pub places_apart : (depth a b : ℕ) → 1 ≤ depth → depth ≤ 4 → a < b → b < a + depth → a % depth ≢ b % depth
places_apart depth a b low high less near = each_depth depth (λ n. b < a + n → a % n ≢ b % n) low high
    (λ h e. omega arith) (λ h e. omega arith) (λ h e. omega arith) (λ h e. omega arith) near

-- a round is the last one at its own place
pub last_here : (depth k : ℕ) → last_round depth (suc k) (suc k % depth) ≡ suc k
last_here depth k = rw (eq-eqb (suc k % depth) (suc k % depth) refl) refl

-- at any other place the next round changes nothing
pub last_step : (depth k d : ℕ) → d ≢ suc k % depth → last_round depth (suc k) d ≡ last_round depth k d
last_step depth k d other = rw (ne_eqb (suc k % depth) d (λ e. other (sym e))) refl

-- the last round of a place isn't above the sender's
pub last_le : (depth k d : ℕ) → last_round depth k d ≤ k
last_le depth zero d = omega arith
last_le depth (suc k) d = elim (cases_eq (suc k % depth) d) [
  | inl e ↦ subst (λ (b : Bool). (if b then suc k else last_round depth k d) ≤ suc k) (sym (eq-eqb (suc k % depth) d e)) (omega arith)
  | inr n ↦ subst (λ (b : Bool). (if b then suc k else last_round depth k d) ≤ suc k) (sym (ne_eqb (suc k % depth) d n)) (let h = last_le depth k d in omega arith)
]

-- the last round at the place of a round that is less than `depth` back is that round
pub last_recent : (depth k n : ℕ) → 1 ≤ depth → depth ≤ 4 → 1 ≤ k → n < depth → last_round depth (k + n) (k % depth) ≡ k
last_recent depth zero n low high some near = absurd (omega arith)
last_recent depth (suc k) zero low high some near =
    subst (λ (z : ℕ). last_round depth z (suc k % depth) ≡ suc k) (let e : suc k ≡ suc k + zero = omega arith in e) (last_here depth k)
last_recent depth (suc k) (suc n) low high some near =
    let e : suc (suc k + n) ≡ suc k + suc n = omega arith in
    let apart = places_apart depth (suc k) (suc (suc k + n)) low high (omega arith) (omega arith) in
    subst (λ (z : ℕ). last_round depth z (suc k % depth) ≡ suc k) e
    (last_step depth (suc k + n) (suc k % depth) apart ∙ last_recent depth (suc k) n low high some (omega arith))

-- before the depth is reached no round has the place of the next one
none_before : (depth k n : ℕ) → 1 ≤ depth → depth ≤ 4 → k < depth → n ≤ k → last_round depth n (suc k % depth) ≡ 0
none_before depth k zero low high early within = refl
none_before depth k (suc n) low high early within =
    let apart = places_apart depth (suc n) (suc k) low high in
    elim (cases_eq n k) [
      | inl e ↦ absurd (omega arith)
      | inr other ↦ last_step depth n (suc k % depth) (λ e. apart (omega arith) (omega arith) (sym e)) ∙ none_before depth k n low high early (omega arith)
    ]

-- at the place of the next round it is the round `depth` before that one, or 0
pub last_oldest : (depth k : ℕ) → 1 ≤ depth → depth ≤ 4 → last_round depth k (suc k % depth) ≡ suc k - depth
last_oldest depth k low high = elim (cases_lt k depth) [
  | inl early ↦ none_before depth k k low high early (omega arith) ∙ (let e : 0 ≡ suc k - depth = omega arith in e)
  | inr late ↦
      let back : ℕ = suc k - depth in
      let e : back + (depth - 1) ≡ k = omega arith in
      let place : back % depth ≡ suc k % depth = each_depth depth (λ n. n ≤ suc k → (suc k - n) % n ≡ suc k % n) low high (λ h. omega arith) (λ h. omega arith) (λ h. omega arith) (λ h. omega arith) (omega arith) in
      subst (λ (z : ℕ). last_round depth k z ≡ back) place
      (subst (λ (z : ℕ). last_round depth z (back % depth) ≡ back) e (last_recent depth back (depth - 1) low high (omega arith) (omega arith)))
]

-- a last round stands at its place
pub last_place : (depth k d : ℕ) → 1 ≤ last_round depth k d → last_round depth k d % depth ≡ d
last_place depth zero d = λ h. absurd (omega arith)
last_place depth (suc k) d = elim (cases_eq (suc k % depth) d) [
  | inl e ↦ subst (λ (b : Bool). 1 ≤ (if b then suc k else last_round depth k d) → (if b then suc k else last_round depth k d) % depth ≡ d) (sym (eq-eqb (suc k % depth) d e)) (λ _. e)
  | inr n ↦ subst (λ (b : Bool). 1 ≤ (if b then suc k else last_round depth k d) → (if b then suc k else last_round depth k d) % depth ≡ d) (sym (ne_eqb (suc k % depth) d n)) (λ h. last_place depth k d h)
]
