-- The bits of a word. A word has a round, and the bits 0 to 32; bit 32 is set where it is shut.
use Rattle.std.specs.Prelude.{ℕ, ◌+◌, ◌/◌, ◌%◌, ◌^◌, false}
use Rattle.gate_word.specs.Words.{word_of, round_in}

-- bit j of a word, 0 or 1
unfoldable pub bit : ℕ → ℕ → ℕ
bit w j = w / 2 ^ j % 2

-- the open word of round k with no bit set
unfoldable pub empty : ℕ → ℕ
empty k = word_of k false 0

-- A bit is set once a round. This is the first round, from 1 on, in which bit j of the word isn't set so far.
abbrev pub next : ℕ → ℕ → ℕ
next w j = round_in w + bit w j
