-- What a seat sees when it looks at the pieces over a receive partition, one after another.
use Rattle.std.specs.Prelude.{◌≡◌, ◌↔◌, ℕ, suc, ◌+◌, ◌-◌, ◌%◌, ◌<◌, ◌≤◌, List, [], ◌∷◌, ◌++◌, length}
use Rattle.gate_word.specs.Order.{IsLater}
use Rattle.part_geometry.specs.Shape.{Shape, IsShape}
use Rattle.part_geometry.specs.Pieces.{pieces, piece_of, TouchesRecv}
use Rattle.part_tables.specs.Parts.{first_received}
use Rattle.slot_rows.specs.Lists.{Every}
use Rattle.pair_core.specs.Names.{Piece}
use Rattle.pair_core.specs.Reading.{IsFull}
use Rattle.pair_rule.specs.Views.{saw, seen}
use Rattle.pair_rule.specs.declared.view.View.{View}

-- the pieces over receive partition q: from that of its first cell up to and without the one behind that of its last
abbrev pub first_piece : Shape → ℕ → ℕ
first_piece g q = piece_of g (first_received g q)

abbrev pub after_piece : Shape → ℕ → ℕ
after_piece g q = piece_of g (first_received g (q + 1) - 1) + 1

-- they are the pieces that touch it
abbrev pub AreThePieces : Type 0
AreThePieces = (g : Shape) (q i : ℕ) → IsShape g → q < g.recv_parts → i < pieces g
    → TouchesRecv g i q ↔ ((first_piece g q ≤ i) × (i < after_piece g q))

-- the seat looked at the words of the pieces from piece i on at place e, and found these
abbrev pub looked : ℕ → ℕ → List ℕ → View → View
looked e i [] d = d
looked e i (w ∷ ws) d = looked e (suc i) ws (saw (Piece e i) w d)

-- the place of round k
abbrev pub place_in : View → ℕ → ℕ
place_in d k = k % d.geometry.depth

-- A look for round k at the first of the pieces over receive partition q found these words. Each is the one that the
-- seat had last seen, or a later one.
pub record Looks (k q : ℕ) (words : List ℕ) (old new : View) : Type 0 where
  pub view : new ≡ looked (place_in old k) (first_piece old.geometry q) words old
  pub told : Every (λ i w. IsLater (seen old (Piece (place_in old k) i)) w) (first_piece old.geometry q) words

-- these words of the pieces from piece i on are full in round k
abbrev pub AreFull : Shape → ℕ → ℕ → List ℕ → Type 0
AreFull g k i words = Every (λ j w. IsFull g w k j) i words

-- the look found all pieces over the partition full in the round
pub record SeesAll (k q : ℕ) (old new : View) : Type 0 where
  pub words : List ℕ
  pub looks : Looks k q words old new
  pub full : AreFull old.geometry k (first_piece old.geometry q) words
  pub all : first_piece old.geometry q + length words ≡ after_piece old.geometry q

-- it found those before piece i full, and piece i with the word w, which isn't full
pub record Misses (k q i w : ℕ) (old new : View) : Type 0 where
  pub before : List ℕ
  pub looks : Looks k q (before ++ w ∷ []) old new
  pub full : AreFull old.geometry k (first_piece old.geometry q) before
  pub here : first_piece old.geometry q + length before ≡ i
  pub over : i < after_piece old.geometry q
  pub missing : ¬ IsFull old.geometry w k i
