-- The bits of a number as a set: `&` tells whether one is within another, and `|` makes the union. All goes bit by bit,
-- by what the digit of each is.
use Rattle.std.proofs.Common.{◌≡◌, ℕ, ◌*◌, ◌^◌, ap, ◌∙◌, arith, inl, inr}
use Rattle.std.specs.Int.{IsBitSet, bit_at}
use Rattle.std.specs.Prelude.{bit_and, bit_or}
use Rattle.std.proofs.lemmas.Bool.{cases_eq}
use Rattle.std.proofs.lemmas.Nat.{pow_pos}
use Rattle.std.proofs.lemmas.Nat.Bits.{and_pow, bit_at-lt, bit_at_and, bit_at_or, same_from_bits}
use Rattle.gate_word.specs.Order.{AreIn}

-- the digit of a bit that is set is 1
pub set_one : (n i : ℕ) → IsBitSet n i → bit_at n i ≡ 1
set_one n i set =
    let small = bit_at-lt n i in
    elim (cases_eq (bit_at n i) 1) [
      | inl e ↦ e
      | inr other ↦
          let none : bit_at n i ≡ 0 = grind arith in
          absurd (set (and_pow n i ∙ ap (λ x. x * 2 ^ i) none ∙ (omega arith)))
    ]

-- and a bit whose digit is 1 is set
pub one_set : (n i : ℕ) → bit_at n i ≡ 1 → IsBitSet n i
one_set n i one none =
    let some = pow_pos i in
    let e = and_pow n i ∙ ap (λ x. x * 2 ^ i) one in
    absurd (omega arith)

-- where `m & n` is m, each bit of m is set in n
pub and-in : (m n : ℕ) → bit_and m n ≡ m → AreIn m n
and-in m n e i set =
    let one = set_one m i set in
    let both = bit_at_and m n i in
    let same : bit_at (bit_and m n) i ≡ bit_at m i = ap (λ x. bit_at x i) e in
    let small = bit_at-lt n i in
    one_set n i (omega arith)

-- and where each bit of m is set in n, `m & n` is m
pub in-and : (m n : ℕ) → AreIn m n → bit_and m n ≡ m
in-and m n are = same_from_bits _ _ (λ i.
    let both = bit_at_and m n i in
    elim (cases_eq (bit_at m i) 1) [
      | inl one ↦ let other = set_one n i (are i (one_set m i one)) in omega arith
      | inr not_one ↦
          let small = bit_at-lt m i in
          let none : bit_at m i ≡ 0 = grind arith in
          omega arith
    ])

-- numbers with the same bits are equal
pub in-same : (m n : ℕ) → AreIn m n → AreIn n m → m ≡ n
in-same m n there back = same_from_bits _ _ (λ i.
    let small = bit_at-lt m i in
    let small2 = bit_at-lt n i in
    elim (cases_eq (bit_at m i) 1) [
      | inl one ↦ let other = set_one n i (there i (one_set m i one)) in omega arith
      | inr not_one ↦
          elim (cases_eq (bit_at n i) 1) [
            | inl one ↦ absurd (not_one (set_one m i (back i (one_set n i one))))
            | inr other ↦
                let none : bit_at m i ≡ 0 = grind arith in
                let none2 : bit_at n i ≡ 0 = grind arith in
                omega arith
          ]
    ])

-- each bit of m is set in `m | n`
pub or-first : (m n : ℕ) → AreIn m (bit_or m n)
or-first m n i set =
    let one = set_one m i set in
    let either = bit_at_or m n i in
    let small = bit_at-lt (bit_or m n) i in
    one_set _ i (omega arith)

-- and so is each bit of n
pub or-second : (m n : ℕ) → AreIn n (bit_or m n)
or-second m n i set =
    let one = set_one n i set in
    let either = bit_at_or m n i in
    let small = bit_at-lt (bit_or m n) i in
    one_set _ i (omega arith)

-- a number with the bits of m and those of n has those of `m | n`
pub or-least : (m n d : ℕ) → AreIn m d → AreIn n d → AreIn (bit_or m n) d
or-least m n d first second i set =
    let one = set_one (bit_or m n) i set in
    let either = bit_at_or m n i in
    elim (cases_eq (bit_at m i) 1) [
      | inl e ↦ first i (one_set m i e)
      | inr other ↦
          let small = bit_at-lt m i in
          let none : bit_at m i ≡ 0 = grind arith in
          second i (one_set n i (omega arith))
    ]
