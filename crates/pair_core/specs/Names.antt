-- The words of a pair by name, and their numbers.
use Rattle.std.specs.Prelude.{ℕ, ◌+◌, ◌*◌, ◌/◌, ◌<◌}
use native.Mathlib.Decide.{ℕ_discrete}
use Rattle.part_geometry.specs.Shape.{Shape}
use Rattle.part_geometry.specs.Pieces.{pieces}

-- a claim word for each 32 send partitions; the release word; a take word and a return word for each 32 receive
-- partitions; and at each place a piece word for each piece, where the place of round k is k mod depth
pub data Name : Type 0 where
  Claim : ℕ → Name
  Release : Name
  Take : ℕ → Name
  Return : ℕ → Name
  Piece : ℕ → ℕ → Name

-- how many claim words there are, and how many take words and return words
abbrev pub claim_words : Shape → ℕ
claim_words g = (g.send_parts + 31) / 32

abbrev pub take_words : Shape → ℕ
take_words g = (g.recv_parts + 31) / 32

-- a pair of this geometry has the word
abbrev pub Fits : Shape → Name → Type 0
Fits g (Claim c) = c < claim_words g
Fits g Release = Unit {0}
Fits g (Take t) = t < take_words g
Fits g (Return t) = t < take_words g
Fits g (Piece d i) = (d < g.depth) × (i < pieces g)

-- the number of a word
abbrev pub number : Shape → Name → ℕ
number g (Claim c) = c
number g Release = claim_words g
number g (Take t) = claim_words g + 1 + t
number g (Return t) = claim_words g + 1 + take_words g + t
number g (Piece d i) = claim_words g + 1 + 2 * take_words g + (d * pieces g + i)

-- a function with one value changed
abbrev pub pick : {X : Type 0} {P : Type 0} → Dec P → X → X → X
pick (yes _) a b = a
pick (no _) a b = b

unfoldable pub put : {X : Type 0} → (ℕ → X) → ℕ → X → ℕ → X
put f n x m = pick (ℕ_discrete m n) x (f m)

unfoldable pub put_pair : {X : Type 0} → (ℕ → ℕ → X) → ℕ → ℕ → X → ℕ → ℕ → X
put_pair f m n x = put f m (put (f m) n x)

-- the words with one word changed
abbrev pub put_word : {X : Type 0} → Name → X → (Name → X) → Name → X
put_word (Claim c) w f (Claim b) = put (λ n. f (Claim n)) c w b
put_word (Claim c) w f x = f x
put_word Release w f Release = w
put_word Release w f x = f x
put_word (Take c) w f (Take b) = put (λ n. f (Take n)) c w b
put_word (Take c) w f x = f x
put_word (Return c) w f (Return b) = put (λ n. f (Return n)) c w b
put_word (Return c) w f x = f x
put_word (Piece d i) w f (Piece e j) = put_pair (λ m n. f (Piece m n)) d i w e j
put_word (Piece d i) w f x = f x
