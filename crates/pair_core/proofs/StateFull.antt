-- A piece word read bit by bit: bit j is that of the partition j behind the first that the piece touches.
use Rattle.std.proofs.Common.{◌≡◌, ◌∙◌, ℕ, ◌+◌, ◌-◌, ◌<◌, ap, arith}
use Rattle.gate_word.specs.Words.{round_in}
use Rattle.part_geometry.specs.Shape.{Shape, IsShape}
use Rattle.part_geometry.specs.Pieces.{pieces, first_part, need_count}
use Rattle.pair_core.specs.Words.{bit}
use Rattle.pair_core.specs.Reading.{IsFull}
use Rattle.pair_core.proofs.Cut.{touch_range, range_touch}

-- a word of the round that has each bit of its piece is full
pub bits_full : (g : Shape) → IsShape g → (w k i : ℕ) → i < pieces g → round_in w ≡ k → ((j : ℕ) → j < need_count g i → bit w j ≡ 1) → IsFull g w k i
bits_full g v w k i inside round each = record {
  round = round;
  all = λ p t. let r = touch_range g v i p inside t in let low = r.low in let high = r.high in each (p - first_part g i) (omega arith);
}

-- and a full word has each bit
pub full_bit : (g : Shape) → IsShape g → (w k i j : ℕ) → i < pieces g → IsFull g w k i → j < need_count g i → bit w j ≡ 1
full_bit g v w k i j inside full low =
    let e : j ≡ first_part g i + j - first_part g i = omega arith in
    ap (bit w) e ∙ full.all (first_part g i + j) (range_touch g v i (first_part g i + j) inside (omega arith) (omega arith))
