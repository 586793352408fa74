-- What the words say of partitions and pieces. All that reads a bit of a claim, take or return word stands on the
-- first three definitions.
use Rattle.std.specs.Prelude.{◌≡◌, ℕ, zero, suc, ◌+◌, ◌-◌, ◌/◌, ◌%◌, ◌==◌, Bool, if◌then◌else◌, List, filter}
use Rattle.std.specs.Prelude.{nat_lt, nat_le, ◌&&◌}
use Rattle.std.specs.List.{range_with_len, list_all}
use Rattle.gate_word.specs.Words.{round_in}
use Rattle.part_geometry.specs.Shape.{Shape}
use Rattle.part_geometry.specs.Pieces.{pieces, first_part, need_count, needed, Touches}
use Rattle.pair_core.specs.Words.{bit, next}

-- the bit of partition p among the words of 32 partitions each: whether a send partition is claimed, a receive
-- partition taken or given back, 0 or 1
abbrev pub part_bit : (ℕ → ℕ) → ℕ → ℕ
part_bit words p = bit (words (p / 32)) (p % 32)

-- the first round, from 1 on, in which it isn't so far
abbrev pub next_round : (ℕ → ℕ) → ℕ → ℕ
next_round words p = next (words (p / 32)) (p % 32)

-- whether piece i has send partition p, by the piece's word
abbrev pub laid : Shape → ℕ → ℕ → ℕ → ℕ
laid g w i p = bit w (p - first_part g i)

-- a word of piece i is full in round k: it has each send partition that the piece touches
pub record IsFull (g : Shape) (w k i : ℕ) : Type 0 where
  pub round : round_in w ≡ k
  pub all : (p : ℕ) → Touches g i p → laid g w i p ≡ 1

-- the same as a test
abbrev pub is_full : Shape → ℕ → ℕ → ℕ → Bool
is_full g w k i = (round_in w == k) && list_all (λ p. laid g w i p == 1) (needed g i)

-- the greatest round from 1 to k at place d, or 0
abbrev pub last_round : ℕ → ℕ → ℕ → ℕ
last_round depth zero d = 0
last_round depth (suc k) d = if suc k % depth == d then suc k else last_round depth k d

-- the pieces that send partition p touches, and the pieces that receive partition q touches
abbrev pub touches : Shape → ℕ → ℕ → Bool
touches g p i = nat_le (first_part g i) p && nat_lt p (first_part g i + need_count g i)

abbrev pub pieces_over : Shape → ℕ → List ℕ
pieces_over g p = filter (touches g p) (range_with_len 0 (pieces g))
