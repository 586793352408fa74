-- The order in which a word changes: a round's bits are set, then it may be shut, then a later round comes.
use Rattle.std.specs.Prelude.{◌≡◌, ◌⊎◌, ℕ, ◌<◌, ◌||◌, nat_lt, bit_or, IsBitSet, IsTrue, if◌then◌else◌}
use Rattle.gate_word.specs.Words.{IsWord, word_of, round_in, shut_in, bits_in}

-- each bit that is set in m is set in n
abbrev pub AreIn : ℕ → ℕ → Type 0
AreIn m n = (i : ℕ) → IsBitSet m i → IsBitSet n i

-- in one round, b has all the bits of a and is shut if a is
pub record Follows (a b : ℕ) : Type 0 where
  pub round : round_in a ≡ round_in b
  pub bits : AreIn (bits_in a) (bits_in b)
  pub shut : IsTrue (shut_in a) → IsTrue (shut_in b)

-- b is a or later than a: its round is greater, or it follows a in one round
abbrev pub IsLater : ℕ → ℕ → Type 0
IsLater a b = (round_in a < round_in b) ⊎ Follows a b

-- this is a partial order
pub record IsPartialOrder : Type 0 where
  pub reflexive : (a : ℕ) → IsLater a a
  pub antisymmetric : (a b : ℕ) → IsLater a b → IsLater b a → a ≡ b
  pub transitive : (a b c : ℕ) → IsLater a b → IsLater b c → IsLater a c

-- the join of two words: the one of the greater round or, in one round, the word with the bits of both, shut where
-- one is
unfoldable pub join_of : ℕ → ℕ → ℕ
join_of a b =
    if nat_lt (round_in a) (round_in b) then b else (
    if nat_lt (round_in b) (round_in a) then a else
    word_of (round_in a) (shut_in a || shut_in b) (bit_or (bits_in a) (bits_in b)))

-- c is above both a and b, and below each word that is
pub record IsLeastAbove (a b c : ℕ) : Type 0 where
  pub first : IsLater a c
  pub second : IsLater b c
  pub least : (d : ℕ) → IsLater a d → IsLater b d → IsLater c d

-- the join is the least word above both
pub record IsJoin : Type 0 where
  pub word : (a b : ℕ) → IsWord a → IsWord b → IsWord (join_of a b)
  pub least : (a b : ℕ) → IsLeastAbove a b (join_of a b)
