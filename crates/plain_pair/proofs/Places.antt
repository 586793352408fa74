-- Rounds in flight have places of their own: they are a row of at most as many as the depth, so no two have one
-- remainder by it.
use Rattle.std.proofs.Common.{◌≡◌, ◌≢◌, ◌⊎◌, ℕ, ◌+◌, ◌*◌, ◌/◌, ◌%◌, ◌<◌, ◌≤◌, sym, arith, inl, inr}
use Rattle.std.proofs.lemmas.Nat.{mul-le, mod_below}
use Rattle.std.proofs.lemmas.Bool.{cases_lt, cases_order}
use Rattle.part_geometry.specs.Shape.{Shape, IsShape}
use Rattle.plain_pair.specs.Kept.{buffer_place}

-- two numbers less than d apart with one remainder are one
below_apart : (a b d : ℕ) → 0 < d → a < b → b < a + d → a % d ≡ b % d → a ≡ b
below_apart a b d pos less near same =
    elim (cases_lt (a / d) (b / d)) [
      | inl up ↦ let h : (a / d + 1) * d ≤ b / d * d = mul-le (a / d + 1) d (b / d) d (omega arith) (omega arith) in absurd (omega arith)
      | inr down ↦ let h : b / d * d ≤ a / d * d = mul-le (b / d) d (a / d) d down (omega arith) in absurd (omega arith)
    ]

-- two numbers of the d behind `low` with one remainder by d are equal
pub one_turn : (low a b d : ℕ) → 0 < d → low < a → a ≤ low + d → low < b → b ≤ low + d → a % d ≡ b % d → a ≡ b
one_turn low a b d pos la ha lb hb same =
    elim (cases_order a b) [
      | inl is ↦ is
      | inr other ↦ elim other [
        | inl less ↦ below_apart a b d pos less (omega arith) same
        | inr more ↦ sym (below_apart b a d pos more (omega arith) (sym same))
      ]
    ]

-- buffers of one place aren't those of another
pub places_apart : (a b q n : ℕ) → a ≢ b → q < n → (b * n + q < a * n) ⊎ (a * n + n ≤ b * n + q)
places_apart a b q n other inside =
    elim (cases_order a b) [
      | inl is ↦ absurd (other is)
      | inr apart ↦ elim apart [
        | inl less ↦ let h : (a + 1) * n ≤ b * n = mul-le (a + 1) n b n (omega arith) (omega arith) in inr (omega arith)
        | inr more ↦ let h : (b + 1) * n ≤ a * n = mul-le (b + 1) n a n (omega arith) (omega arith) in inl (omega arith)
      ]
    ]

-- the buffer of a receive partition at the place of a round is among all of them
pub place_inside : (g : Shape) → IsShape g → (k q : ℕ) → q < g.recv_parts → buffer_place g k q < g.depth * g.recv_parts
place_inside g v k q inside =
    let pos : 0 < g.depth = omega (arith, v.depth.0) in
    let place : k % g.depth < g.depth = mod_below k g.depth pos in
    let h : (k % g.depth + 1) * g.recv_parts ≤ g.depth * g.recv_parts = mul-le (k % g.depth + 1) g.recv_parts g.depth g.recv_parts (omega arith) (omega arith) in
    omega arith
