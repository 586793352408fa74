-- A gate word: one number that has a round, whether it is shut, and 32 bits.
use Rattle.std.specs.Prelude.{◌≡◌, ℕ, ◌+◌, ◌*◌, ◌/◌, ◌%◌, ◌^◌, ◌<◌, Bool, ◌==◌, if◌then◌else◌}

-- a number of 64 bits
abbrev pub IsWord : ℕ → Type 0
IsWord w = w < 2 ^ 64

-- the word of a round, open or shut, and of bits below 2 ^ 32
unfoldable pub word_of : ℕ → Bool → ℕ → ℕ
word_of round shut bits = round * 2 ^ 33 + (if shut then 2 ^ 32 else 0) + bits

-- what a word has: the round, whether it is shut, and the bits as a number below 2 ^ 32
unfoldable pub round_in : ℕ → ℕ
round_in w = w / 2 ^ 33

unfoldable pub shut_in : ℕ → Bool
shut_in w = w / 2 ^ 32 % 2 == 1

unfoldable pub bits_in : ℕ → ℕ
bits_in w = w % 2 ^ 32

-- a word has round r, is shut where s is true, and has the bits b
pub record Has (w r : ℕ) (s : Bool) (b : ℕ) : Type 0 where
  pub round : round_in w ≡ r
  pub shut : shut_in w ≡ s
  pub bits : bits_in w ≡ b

-- making a word and reading it undo each other
pub record IsPacking : Type 0 where
  pub made : (round : ℕ) (shut : Bool) (bits : ℕ) → bits < 2 ^ 32 → Has (word_of round shut bits) round shut bits
  pub read : (w : ℕ) → word_of (round_in w) (shut_in w) (bits_in w) ≡ w
  pub fits : (round : ℕ) (shut : Bool) (bits : ℕ) → round < 2 ^ 31 → bits < 2 ^ 32 → IsWord (word_of round shut bits)
  pub limits : (w : ℕ) → IsWord w → (round_in w < 2 ^ 31) × (bits_in w < 2 ^ 32)
