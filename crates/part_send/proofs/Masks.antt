-- Words read by masks: the bits of a word below 32 are those of a number of 32 bits, and an and with a mask reads
-- some of them.
use Rattle.std.proofs.Common.{◌≡◌, ℕ, ◌+◌, ◌*◌, ◌/◌, ◌%◌, ◌^◌, ◌<◌, Bool, true, false, ◌==◌, refl, sym, ap, ◌∙◌, arith, inl, inr}
use Rattle.std.specs.Prelude.{bit_and}
use Rattle.std.specs.Int.{bit_at}
use Rattle.std.proofs.lemmas.Bool.{cases_lt, eq-eqb, eqb-true}
use Rattle.std.proofs.lemmas.Nat.Bits.{bit_at_ones, bit_at_ones_above, shr_and_one}
use Rattle.gate_word.specs.Words.{round_in, shut_in, bits_in}
use Rattle.std.proofs.lemmas.Nat.{pow_below}
use Rattle.gate_word.proofs.BitSets.{set_one, one_set, and-in, in-and}
use Rattle.part_geometry.specs.Shape.{Shape, IsShape}
use Rattle.part_geometry.specs.Pieces.{pieces, need, need_count}
use Rattle.part_geometry.proofs.PieceFacts.{need_count-le}
use Rattle.pair_core.specs.Words.{bit}
use Rattle.pair_core.specs.Reading.{is_full}
use Rattle.pair_core.proofs.Words.{has_bit, has_shut, has_open}
use Rattle.pair_core.proofs.Full.{full_passes, passes_full}
use Rattle.pair_core.proofs.StateFull.{bits_full, full_bit}

-- bit j of a word is that of its number of 32 bits
pub word_bit : (w j : ℕ) → j < 32 → bit w j ≡ bit_at (bits_in w) j
word_bit w j low = has_bit w (round_in w) (bits_in w) (shut_in w) (record { round = refl; shut = refl; bits = refl }) j low

-- bit 32 of a shut word is set
pub word_shut : (w : ℕ) → shut_in w ≡ true → bit w 32 ≡ 1
word_shut w e = has_shut w (round_in w) (bits_in w) (record { round = refl; shut = e; bits = refl })

-- and that of an open one isn't
pub word_open : (w : ℕ) → shut_in w ≡ false → bit w 32 ≡ 0
word_open w e = has_open w (round_in w) (bits_in w) (record { round = refl; shut = e; bits = refl })

-- the test of a bit
pub bit_tested : (w p : ℕ) → bit_and (bits_in w / 2 ^ (p % 32)) 1 ≡ bit w (p % 32)
bit_tested w p = shr_and_one (bits_in w) (p % 32) ∙ sym (word_bit w (p % 32) (omega arith))

-- the low bits of a word are all set, or from one on that isn't
pub all_set : (w p : ℕ) → bits_in w ≡ 4294967295 → bit w (p % 32) ≡ 1
all_set w p e = word_bit w (p % 32) (omega arith) ∙ (ap (λ (z : ℕ). bit_at z (p % 32)) e ∙ bit_at_ones 32 (p % 32) (omega arith))

module _ (w c n : ℕ) (low : n < 32) (unset : bit_at (bits_in w) n ≡ 0) (ones : (i : ℕ) → i < n → bit_at (bits_in w) i ≡ 1) where
  -- the partitions of word c before the first bit that isn't set have their bits
  pub below_set : (j : ℕ) → j < 32 * c + n → j / 32 ≡ c → bit w (j % 32) ≡ 1
  below_set j less same = word_bit w (j % 32) (omega arith) ∙ ones (j % 32) (omega arith)

  -- the partition of that bit is of word c, and lacks it
  pub least_unset : ((32 * c + n) / 32 ≡ c) × (bit w ((32 * c + n) % 32) ≡ 0)
  least_unset =
      let e : (32 * c + n) % 32 ≡ n = omega arith in
      ((let q : (32 * c + n) / 32 ≡ c = omega arith in q), ap (bit w) e ∙ (word_bit w n low ∙ unset))

-- two tests that hold together are the same
pub same_test : (a b : Bool) → (a ≡ true → b ≡ true) → (b ≡ true → a ≡ true) → a ≡ b
same_test true b there back = sym (there refl)
same_test false true there back = back refl
same_test false false there back = refl

-- a piece's word is full where it has the bits of its mask
pub full_masked : (g : Shape) → IsShape g → (w k i : ℕ) → i < pieces g → round_in w ≡ k → (bit_and (need g i) (bits_in w) == need g i) ≡ is_full g w k i
unfolding need
full_masked g v w k i inside round =
    let n : ℕ = need_count g i in let few = need_count-le g v i inside in
    same_test (bit_and (need g i) (bits_in w) == need g i) (is_full g w k i)
    (λ same.
    let are = and-in (need g i) (bits_in w) (eqb-true (bit_and (need g i) (bits_in w)) (need g i) same) in
    full_passes g v w k i inside (bits_full g v w k i inside round
    (λ j low. word_bit w j (omega arith) ∙ set_one (bits_in w) j (are j (one_set (need g i) j (bit_at_ones n j low))))))
    (λ full.
    let is = passes_full g v w k i inside full in
    eq-eqb (bit_and (need g i) (bits_in w)) (need g i) (in-and (need g i) (bits_in w) (λ j set.
    elim (cases_lt j n) [
      | inl low ↦ one_set (bits_in w) j (sym (word_bit w j (omega arith)) ∙ full_bit g v w k i j inside is low)
      | inr high ↦ absurd (let one = set_one (need g i) j set in let none = bit_at_ones_above n j high in omega arith)
    ])))

-- a bit that is shifted into its place
pub shifted : (k : ℕ) → k < 33 → 1 * 2 ^ k % 18446744073709551616 ≡ 2 ^ k
shifted k low = let small = pow_below k 33 low in omega arith
