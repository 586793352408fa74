-- The buffers of a partition's cells, filled one after another: those of the cells so far have their parts of the
-- bytes, and the others their lengths still.
use Rattle.std.proofs.Common.{◌≡◌, ℕ, ◌+◌, ◌-◌, ◌%◌, ◌<◌, ◌≤◌, List, length, map, Option, Some, refl, sym, ap, ◌∙◌, subst, arith, inl, inr, length-set}
use Rattle.std.specs.Prelude.{slice_set}
use Rattle.std.proofs.lemmas.Bool.{cases_eq}
use mathlib.Core.Option.{some, some-injective}
use lib.ListN.{get_elem?}
use Rattle.part_geometry.specs.Shape.{Shape, IsShape}
use Rattle.part_geometry.specs.Cells.{cells}
use Rattle.part_tables.specs.Parts.{first_sent}
use Rattle.part_tables.specs.Bytes.{cut}
use Rattle.part_tables.proofs.Facts.{length-cut}
use Rattle.pair_rule.specs.Buf.{Buf, buf}
use Rattle.pair_rule.specs.Rule.{cell_length, slot_number}
use Rattle.pair_rule.specs.Seats.{MarkHeld}
use Rattle.pair_rule.specs.Marking.{HasOut, spot, sent_slot, sent_count}
use Rattle.part_send.specs.Marking.{AreLent, AreFilled}
use Rattle.part_send.proofs.Slots.{at_in, in_at, set_here, set_else, every_at, every_from, map_at, set_map}

-- the buffers of cells from `first` on are out, each with its cell's length; those of the cells before c are filled
pub record AreSoFar (g : Shape) (k first c n : ℕ) (b : List ℕ) (out : List (Option Buf)) : Type 0 where
  -- the buffers
  pub bufs : List Buf
  -- each slot that is out has one
  pub is : out ≡ map Some bufs
  -- there are n
  pub count : length bufs ≡ n
  -- each has its cell's length
  pub long : (j : ℕ) (y : Buf) → get_elem? bufs j ≡ some y → length y.bytes ≡ cell_length g (first + j)
  -- and those of the cells before c have the round and their part of the bytes
  pub cuts : (j : ℕ) (y : Buf) → get_elem? bufs j ≡ some y → first + j < c → (y.round ≡ k) × (y.bytes ≡ cut g (first + j) b)

-- the buffers that are lent are so before the first cell
pub none_filled : (s : MarkHeld) (k p : ℕ) (b : List ℕ) → AreLent k p s
    → AreSoFar s.view.geometry k (first_sent s.view.geometry p) (first_sent s.view.geometry p) (sent_count s.view.geometry p) b s.out
none_filled s k p b lent = record {
  bufs = lent.bufs;
  is = lent.out;
  count = lent.count;
  long = every_at (λ i (y : Buf). length y.bytes ≡ cell_length s.view.geometry i) (first_sent s.view.geometry p) lent.bufs lent.long;
  cuts = λ j y at low. absurd (omega arith);
}

-- where cell c's slot stands
pub spot_is : (s : MarkHeld) (k p c : ℕ) → s.first ≡ sent_slot s.view.geometry k p → first_sent s.view.geometry p ≤ c
    → (s.first ≤ slot_number s.view.geometry (k % s.view.geometry.depth) c) × (spot s (k % s.view.geometry.depth) c ≡ c - first_sent s.view.geometry p)
spot_is s k p c first low = ((let z : s.first ≤ slot_number s.view.geometry (k % s.view.geometry.depth) c = omega arith in z), omega arith)

module _ (s : MarkHeld) (k p c : ℕ) (b : List ℕ) (first : s.first ≡ sent_slot s.view.geometry k p) (low : first_sent s.view.geometry p ≤ c)
    (high : c < first_sent s.view.geometry p + sent_count s.view.geometry p)
    (h : AreSoFar s.view.geometry k (first_sent s.view.geometry p) c (sent_count s.view.geometry p) b s.out) where
  -- the slot of cell c is out, with a buffer of the cell's length
  pub next_held : (y : Buf) × HasOut s (k % s.view.geometry.depth) c (Some y) × (length y.bytes ≡ cell_length s.view.geometry c)
  next_held =
      let w = spot_is s k p c first low in
      let i : ℕ = c - first_sent s.view.geometry p in
      let few : i < length h.bufs = (let n = h.count in omega arith) in
      let y = in_at h.bufs i few in
      let at : get_elem? s.out i ≡ some (Some y.0) = ap (λ (z : List (Option Buf)). get_elem? z i) h.is ∙ map_at Some h.bufs i y.0 y.1 in
      let back : first_sent s.view.geometry p + i ≡ c = omega arith in
      (y.0, record { from = w.0; at = ap (get_elem? s.out) w.1 ∙ at }, h.long i y.0 y.1 ∙ ap (cell_length s.view.geometry) back)

  -- with its part of the bytes in that slot, so are the buffers before cell c + 1
  pub next_filled : IsShape s.view.geometry → c < cells s.view.geometry → length b ≡ s.view.geometry.send_bytes
      → AreSoFar s.view.geometry k (first_sent s.view.geometry p) (c + 1) (sent_count s.view.geometry p) b
      (slice_set s.out (spot s (k % s.view.geometry.depth) c) (Some (buf k (cut s.view.geometry c b))))
  next_filled v inside size =
      let w = spot_is s k p c first low in
      let i : ℕ = c - first_sent s.view.geometry p in
      let y : Buf = buf k (cut s.view.geometry c b) in
      let few : i < length h.bufs = (let n = h.count in omega arith) in
      let back : first_sent s.view.geometry p + i ≡ c = omega arith in
      record {
        bufs = slice_set h.bufs i y;
        is = (λ t. slice_set (h.is t) (w.1 t) (Some y)) ∙ set_map Some h.bufs i y;
        count = length-set h.bufs i y ∙ h.count;
        long = λ j z at. elim (cases_eq j i) [
          | inl e ↦
              let same : y ≡ z = some-injective y z (sym (set_here h.bufs i y few) ∙ (ap (get_elem? (slice_set h.bufs i y)) (sym e) ∙ at)) in
              let here : first_sent s.view.geometry p + j ≡ c = omega arith in
              subst (λ (u : Buf). length u.bytes ≡ cell_length s.view.geometry (first_sent s.view.geometry p + j)) same
              (length-cut s.view.geometry v c b inside size ∙ ap (cell_length s.view.geometry) (sym here))
          | inr other ↦ h.long j z (sym (set_else h.bufs i j y other) ∙ at)
        ];
        cuts = λ j z at less. elim (cases_eq j i) [
          | inl e ↦
              let same : y ≡ z = some-injective y z (sym (set_here h.bufs i y few) ∙ (ap (get_elem? (slice_set h.bufs i y)) (sym e) ∙ at)) in
              let here : first_sent s.view.geometry p + j ≡ c = omega arith in
              subst (λ (u : Buf). (u.round ≡ k) × (u.bytes ≡ cut s.view.geometry (first_sent s.view.geometry p + j) b)) same
              (refl, ap (λ (n : ℕ). cut s.view.geometry n b) (sym here))
          | inr other ↦ h.cuts j z (sym (set_else h.bufs i j y other) ∙ at) (omega arith)
        ];
      }

-- behind the last cell all are filled
pub all_filled : (s : MarkHeld) (k p c : ℕ) (b : List ℕ) → s.first ≡ sent_slot s.view.geometry k p → first_sent s.view.geometry p + sent_count s.view.geometry p ≤ c
    → AreSoFar s.view.geometry k (first_sent s.view.geometry p) c (sent_count s.view.geometry p) b s.out → AreFilled k p b s
all_filled s k p c b first all h = record {
  first = first;
  bufs = h.bufs;
  out = h.is;
  count = h.count;
  cuts = every_from (λ i (y : Buf). (y.round ≡ k) × (y.bytes ≡ cut s.view.geometry i b)) (first_sent s.view.geometry p) h.bufs
      (λ j y at. h.cuts j y at (let low = at_in h.bufs j y at in let n = h.count in omega arith));
}
