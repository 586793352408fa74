-- Where the words of a pair stand in its table: those of one kind, and the piece words of one place, in a row by their
-- numbers. Before each row and behind the last one so many words are free that no two rows share a cache line. A free
-- word is never read or changed.
use Rattle.std.specs.Prelude.{◌≡◌, ℕ, ◌+◌, ◌*◌, List, slice_index}
use Rattle.part_geometry.specs.Shape.{Shape}
use Rattle.part_geometry.specs.Pieces.{pieces}
use Rattle.pair_core.specs.Names.{Name, Claim, Release, Take, Return, Piece, Fits, claim_words, take_words}
use Rattle.pair_rule.specs.declared.TheConstants.{FREE_WORDS}

abbrev pub address : Shape → Name → ℕ
address g (Claim c) = FREE_WORDS + c
address g Release = 2 * FREE_WORDS + claim_words g
address g (Take t) = 3 * FREE_WORDS + claim_words g + 1 + t
address g (Return t) = 4 * FREE_WORDS + claim_words g + 1 + take_words g + t
address g (Piece d i) = 5 * FREE_WORDS + claim_words g + 1 + 2 * take_words g + (d * (pieces g + FREE_WORDS) + i)

-- how many words the table has
abbrev pub table_size : Shape → ℕ
table_size g = 5 * FREE_WORDS + claim_words g + 1 + 2 * take_words g + g.depth * (pieces g + FREE_WORDS)

-- a list has the words of a pair, each at its address
abbrev pub HasWords : Shape → List ℕ → (Name → ℕ) → Type 0
HasWords g list word = (x : Name) → Fits g x → slice_index list (address g x) ≡ word x
