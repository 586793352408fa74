-- A piece's word is full in a round where its bits have the piece's mask.
use Rattle.std.proofs.Common.{◌≡◌, ℕ, ◌+◌, ◌-◌, ◌^◌, ◌<◌, refl, sym, ap, ◌∙◌, arith, inl, inr, bit_and}
use Rattle.std.specs.Int.{bit_at}
use Rattle.std.proofs.lemmas.Bool.{cases_lt}
use Rattle.std.proofs.lemmas.Nat.Bits.{bit_at_ones, bit_at_ones_above}
use Rattle.gate_word.specs.Words.{round_in, shut_in, bits_in}
use Rattle.gate_word.proofs.BitSets.{set_one, one_set, and-in, in-and}
use Rattle.part_geometry.specs.Shape.{Shape, IsShape}
use Rattle.part_geometry.specs.Pieces.{pieces, first_part, need_count, need}
use Rattle.part_geometry.proofs.PieceFacts.{need_count-le}
use Rattle.pair_core.specs.Words.{bit}
use Rattle.pair_core.specs.Reading.{IsFull}
use Rattle.pair_core.proofs.Words.{has_bit}
use Rattle.pair_core.proofs.Cut.{touch_range, range_touch}

-- the bits of a word below its 32nd
bits_are : (w j : ℕ) → j < 32 → bit w j ≡ bit_at (bits_in w) j
bits_are w j low = has_bit w (round_in w) (bits_in w) (shut_in w) record { round = refl; shut = refl; bits = refl } j low

-- a word of the round that has the mask is full
pub mask_full : (g : Shape) → IsShape g → (w k i : ℕ) → i < pieces g → round_in w ≡ k → bit_and (need g i) (bits_in w) ≡ need g i → IsFull g w k i
unfolding need
mask_full g v w k i inside round e =
    let few = need_count-le g v i inside in
    record {
      round = round;
      all = λ p t.
          let r = touch_range g v i p inside t in let low = r.low in let high = r.high in
          let j : ℕ = p - first_part g i in
          let below : j < need_count g i = omega arith in
          bits_are w j (omega arith) ∙ set_one (bits_in w) j (and-in (2 ^ need_count g i - 1) (bits_in w) e j (one_set (2 ^ need_count g i - 1) j (bit_at_ones (need_count g i) j below)));
    }

-- and a full word has the mask
pub full_mask : (g : Shape) → IsShape g → (w k i : ℕ) → i < pieces g → IsFull g w k i → bit_and (need g i) (bits_in w) ≡ need g i
unfolding need
full_mask g v w k i inside full =
    let few = need_count-le g v i inside in
    in-and (2 ^ need_count g i - 1) (bits_in w) (λ j set.
    let one = set_one (2 ^ need_count g i - 1) j set in
    elim (cases_lt j (need_count g i)) [
      | inl low ↦
          let e : first_part g i + j - first_part g i ≡ j = omega arith in
          let here : bit w j ≡ 1 = sym (ap (bit w) e) ∙ full.all (first_part g i + j) (range_touch g v i (first_part g i + j) inside (omega arith) (omega arith)) in
          one_set (bits_in w) j (sym (bits_are w j (omega arith)) ∙ here)
      | inr high ↦ let none = bit_at_ones_above (need_count g i) j high in absurd (omega arith)
    ])
