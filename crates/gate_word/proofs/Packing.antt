-- A word is made of its three parts, and read back: each part fills bits of its own, so quotients and remainders by
-- powers of two find it again.
use Rattle.std.proofs.Common.{◌≡◌, ℕ, ◌+◌, ◌*◌, ◌/◌, ◌%◌, ◌^◌, ◌<◌, ◌≤◌, Bool, true, false, bit_or, refl, ◌∙◌, arith, inl, inr}
use Rattle.std.specs.Int.{from_bool}
use Rattle.std.proofs.lemmas.Bool.{cases_eq, eq-eqb, ne_eqb}
use Rattle.std.proofs.lemmas.Nat.{or_shifted}
use Rattle.gate_word.specs.Words.{IsWord, word_of, round_in, shut_in, bits_in, Has, IsPacking}

-- a word that is made of three parts has these parts
pub made : (r : ℕ) (s : Bool) (b : ℕ) → b < 2 ^ 32 → Has (word_of r s b) r s b
unfolding word_of round_in shut_in bits_in
made r true b small = record { round = omega arith; shut = eq-eqb _ _ (omega arith); bits = omega arith }
made r false b small = record { round = omega arith; shut = ne_eqb _ _ (λ e. absurd (omega arith)); bits = omega arith }

-- a number is the word made of the parts that are read from it
pub read : (w : ℕ) → word_of (round_in w) (shut_in w) (bits_in w) ≡ w
unfolding word_of round_in shut_in bits_in
read w = elim (cases_eq (w / 2 ^ 32 % 2) 1) [
  | inl e ↦ rw (eq-eqb _ _ e) (omega arith)
  | inr n ↦
      let none : w / 2 ^ 32 % 2 ≡ 0 = grind arith in
      rw (ne_eqb _ _ n) (omega arith)
]

-- a round below 2 ^ 31 and bits below 2 ^ 32 make a number of 64 bits
pub fits : (r : ℕ) (s : Bool) (b : ℕ) → r < 2 ^ 31 → b < 2 ^ 32 → IsWord (word_of r s b)
unfolding word_of
fits r true b below small = omega arith
fits r false b below small = omega arith

-- a number of 64 bits has a round below 2 ^ 31, and bits below 2 ^ 32
pub limits : (w : ℕ) → IsWord w → (round_in w < 2 ^ 31) × (bits_in w < 2 ^ 32)
unfolding round_in bits_in
limits w below = (omega arith, omega arith)

-- the bits that are read from any number are below 2 ^ 32
pub bits-small : (w : ℕ) → bits_in w < 2 ^ 32
unfolding bits_in
bits-small w = omega arith

-- the three parts share no bit, so `|` adds them
pub parts_or : (r s b : ℕ) → r < 2 ^ 31 → s ≤ 1 → b < 2 ^ 32
    → bit_or (bit_or (r * 8589934592 % 18446744073709551616) (s * 4294967296 % 18446744073709551616)) b ≡ r * 2 ^ 33 + s * 2 ^ 32 + b
parts_or r s b below one small =
    let high : r * 8589934592 % 18446744073709551616 ≡ r * 2 ^ 33 = omega arith in
    let mid : s * 4294967296 % 18446744073709551616 ≡ s * 2 ^ 32 = omega arith in
    let joined : r * 2 ^ 33 + s * 2 ^ 32 ≡ (r * 2 + s) * 2 ^ 32 = omega arith in
    rw (high, mid, or_shifted r 33 (s * 2 ^ 32) (omega arith), joined, or_shifted (r * 2 + s) 32 b small) refl

-- what the code makes is the word
pub made_or : (r : ℕ) (s : Bool) (n b : ℕ) → r < 2 ^ 31 → n ≡ from_bool s → b < 2 ^ 32
    → bit_or (bit_or (r * 8589934592 % 18446744073709551616) (n * 4294967296 % 18446744073709551616)) b ≡ word_of r s b
unfolding word_of
made_or r true n b below is small = parts_or r n b below (omega (arith, is)) small ∙ (omega (arith, is))
made_or r false n b below is small = parts_or r n b below (omega (arith, is)) small ∙ (omega (arith, is))

-- making a word and reading it undo each other
pub packing : IsPacking
packing = record { made = made; read = read; fits = fits; limits = limits }
