-- Slots of which some become one thing: the loop over the cells sets the slot of each cell that is picked, one after
-- the other.
use Rattle.std.proofs.Common.{◌≡◌, ◌≢◌, inl, inr, ℕ, ◌+◌, ◌*◌, ◌<◌, Bool, true, false, true≢false, ◌==◌, ◌&&◌, List, length, get_or, refl, sym, ap, ◌∙◌, arith}
use Rattle.std.specs.Prelude.{slice_set}
use Rattle.std.proofs.lemmas.Bool.{cases_Bool, cases_eq, cond-true, cond-false, eqb-true, eq-eqb}
use Rattle.std.proofs.lemmas.List.{get_or-set_same, get_or-set_other}
use Rattle.std.proofs.Math.ListN.{length-set}
use Rattle.part_geometry.specs.Shape.{Shape}
use Rattle.part_geometry.specs.Cells.{cells}
use Rattle.pair_core.specs.Core.{Slot}
use Rattle.pair_core.specs.Steps.{put_slots}
use Rattle.pair_core.specs.Picks.{picked, picked_cell, IsFilledTo, IsFilled}
use Rattle.pair_core.specs.State.{ListsSlots, slot_of}
use Rattle.pair_core.specs.declared.seat.Spot.{Spot}
use Rattle.pair_core.specs.declared.seat.Spot.TheVariants.{Filled}
use Rattle.pair_core.specs.declared.seat.Pick.{Pick}
use Rattle.pair_core.specs.declared.seat.Pick.TheVariants.{Sent, Laid, Received}
use Rattle.part_geometry.specs.Walk.{cell_at}
use Rattle.pair_core.proofs.Full.{and_both, and_first, and_second}
use Rattle.pair_core.proofs.StateNumbers.{row_lt, row_one, cell_one}

-- before the first cell nothing is changed
pub filled_none : (g : Shape) (place : ℕ) (pick : Pick) (x : Spot) (old : List Spot) → IsFilledTo g 0 place pick x old old
filled_none g place pick x old = record { size = refl; here = λ c low _. absurd (omega arith); elsewhere = λ d c low inside _. refl }

-- with one cell more, its slot is changed where it is picked
pub filled_more : (g : Shape) (n place : ℕ) (pick : Pick) (x : Spot) (old mid new : List Spot) (so : Bool) → IsFilledTo g n place pick x old mid → n < cells g → place < g.depth
    → length old ≡ g.depth * cells g → so ≡ picked g pick n → (so ≡ true → new ≡ slice_set mid (place * cells g + n) x) → (so ≡ false → new ≡ mid)
    → IsFilledTo g (n + 1) place pick x old new
filled_more g n place pick x old mid new so before inside there size is set same = elim (cases_Bool so) [
  | inl so_is ↦
      let e = set so_is in
      let low = row_lt place n g.depth (cells g) there inside in
      let m = before.size in
      record {
        size = ap length e ∙ (length-set mid (place * cells g + n) x ∙ m);
        here = λ c below pick'. elim (cases_eq c n) [
          | inl at ↦ ap (λ (l : List Spot). get_or l (place * cells g + c) (Filled 0)) e
              ∙ (ap (λ (z : ℕ). get_or (slice_set mid (place * cells g + n) x) (place * cells g + z) (Filled 0)) at ∙ get_or-set_same mid (place * cells g + n) x (Filled 0) (omega arith))
          | inr other ↦ ap (λ (l : List Spot). get_or l (place * cells g + c) (Filled 0)) e
              ∙ (get_or-set_other mid (place * cells g + n) (place * cells g + c) x (Filled 0) (omega arith) ∙ before.here c (omega arith) pick')
        ];
        elsewhere = λ d c row cell late.
            let apart : d * cells g + c ≢ place * cells g + n = (λ one.
            let rows = row_one d c place n (cells g) cell inside one in let both = cell_one d c place n (cells g) cell inside one in
            let h = late rows (ap (picked g pick) both ∙ (sym is ∙ so_is)) in absurd (omega arith)) in
            ap (λ (l : List Spot). get_or l (d * cells g + c) (Filled 0)) e
            ∙ (get_or-set_other mid (place * cells g + n) (d * cells g + c) x (Filled 0) apart ∙ before.elsewhere d c row cell (λ r p. let h = late r p in omega arith));
      }
  | inr not_so ↦
      let e = same not_so in
      record {
        size = ap length e ∙ before.size;
        here = λ c below pick'. elim (cases_eq c n) [
          | inl at ↦ absurd (true≢false (sym (is ∙ (ap (picked g pick) (sym at) ∙ pick')) ∙ not_so))
          | inr other ↦ ap (λ (l : List Spot). get_or l (place * cells g + c) (Filled 0)) e ∙ before.here c (omega arith) pick'
        ];
        elsewhere = λ d c row cell late. ap (λ (l : List Spot). get_or l (d * cells g + c) (Filled 0)) e ∙ before.elsewhere d c row cell (λ r p. let h = late r p in omega arith);
      }
]

-- the lists show the slots with those of the cells changed
pub filled_slots : (g : Shape) (place : ℕ) (pick : Pick) (x : Spot) (old new : List Spot) (slot : ℕ → ℕ → Slot) → ListsSlots g old slot → IsFilled g place pick x old new
    → ListsSlots g new (put_slots slot place (picked g pick) (slot_of x))
filled_slots g place pick x old new slot before filled d c row cell = elim (cases_Bool ((d == place) && picked g pick c)) [
  | inl so_is ↦
      let at = eqb-true d place (and_first (d == place) (picked g pick c) so_is) in
      ap (λ (z : ℕ). slot_of (get_or new (z * cells g + c) (Filled 0))) at
      ∙ (ap slot_of (filled.here c cell (and_second (d == place) (picked g pick c) so_is)) ∙ sym (cond-true _ _ _ so_is))
  | inr not_so ↦
      ap slot_of (filled.elsewhere d c row cell (λ r p. absurd (true≢false (sym (and_both (d == place) (picked g pick c) (eq-eqb d place r) p) ∙ not_so))))
      ∙ (before d c row cell ∙ sym (cond-false _ _ _ not_so))
]

-- a cell is picked by what its table says of it
pub picked_at : (g : Shape) (pick : Pick) (c : ℕ) → picked_cell pick (cell_at g c) ≡ picked g pick c
picked_at g (Sent p) c = refl
picked_at g (Laid p i) c = refl
picked_at g (Received q) c = refl
