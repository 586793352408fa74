-- A piece whose word isn't full in a round, and is of no later one, wasn't seen full in it before: a word found later has
-- all the bits that were seen.
use Rattle.std.proofs.Common.{◌≡◌, ℕ, ◌-◌, ◌<◌, ◌≤◌, [], ◌∷◌, subst, arith}
use Rattle.gate_word.specs.Words.{round_in}
use Rattle.gate_word.specs.Order.{IsLater}
use Rattle.part_geometry.specs.Shape.{Shape, IsShape}
use Rattle.part_geometry.specs.Pieces.{pieces, first_part}
use Rattle.slot_rows.proofs.Acts.{every_split}
use Rattle.pair_core.specs.Names.{Piece}
use Rattle.pair_core.specs.Reading.{IsFull}
use Rattle.pair_core.proofs.Words.{bit_lt, later_round, later_bit}
use Rattle.pair_core.proofs.Cut.{bit_small}
use Rattle.pair_rule.specs.Views.{seen}
use Rattle.pair_rule.specs.declared.view.View.{View}
use Rattle.part_recv.specs.Seeing.{Misses, place_in, first_piece}
use Rattle.part_recv.specs.Watching.{IsNew}
use Rattle.part_recv.proofs.Pieces.{some_pieces}

-- a later word of the same round is full where the earlier one is
later_full : (g : Shape) → IsShape g → (a b k i : ℕ) → i < pieces g → IsLater a b → round_in b ≤ k → IsFull g a k i → IsFull g b k i
later_full g v a b k i inside later low full =
    let up = later_round a b later in let at = full.round in
    let same : round_in a ≡ round_in b = omega arith in
    record {
      round = omega arith;
      all = λ p t.
          let more = later_bit a b later same (p - first_part g i) (let s = bit_small g v i p inside t in omega arith) in
          let one = full.all p t in let few = bit_lt b (p - first_part g i) in
          omega arith;
    }

-- the word that was found of the piece is the one last seen, or later
pub misses_later : (k q i w : ℕ) (old new : View) → Misses k q i w old new → IsLater (seen old (Piece (place_in old k) i)) w
misses_later k q i w old new m =
    let P : ℕ → ℕ → Type 0 = λ j z. IsLater (seen old (Piece (place_in old k) j)) z in
    subst (λ (z : ℕ). P z w) m.here (every_split P (first_piece old.geometry q) m.before (w ∷ []) m.looks.told).1.0

-- a piece that was found not full is one of the pair
pub misses_inside : (k q i w : ℕ) (old new : View) → IsShape old.geometry → q < old.geometry.recv_parts → Misses k q i w old new → i < pieces old.geometry
misses_inside k q i w old new v part m = let few = some_pieces old.geometry v q part in let a = few.1 in let b = m.over in omega arith

-- and the seat had not seen it full, where its word isn't of a later round
pub misses_new : (k q i w : ℕ) (old new : View) → IsShape old.geometry → q < old.geometry.recv_parts → Misses k q i w old new → round_in w ≤ k → IsNew k i old
misses_new k q i w old new v part m low full =
    m.missing (later_full old.geometry v (seen old (Piece (place_in old k) i)) w k i (misses_inside k q i w old new v part m) (misses_later k q i w old new m) low full)
