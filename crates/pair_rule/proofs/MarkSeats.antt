-- The marking seat's value, of its fields: what an exchange of a slot, a claim that won and a lay make of both.
use Rattle.std.proofs.Common.{◌≡◌, ℕ, ◌+◌, ◌-◌, ◌%◌, ◌^◌, ◌≤◌, List, [], ◌++◌, length, map, drop, set, Option, Some, refl, sym, ap, ◌∙◌, subst, bit_or, append-nil, length-drop}
use Rattle.std.proofs.lemmas.List.{length-map}
use mathlib.Core.Option.{some}
use lib.ListN.{get_elem?}
use Rattle.gate_word.specs.Words.{round_in}
use Rattle.atomic_table.specs.Seated.{TableId}
use Rattle.part_tables.specs.Parts.{first_sent}
use Rattle.pair_core.specs.declared.view.Pending.{Pending}
use Rattle.slot_rows.specs.Lists.{row}
use Rattle.slot_rows.proofs.Lists.{row_length}
use Rattle.pair_rule.specs.Buf.{Buf}
use Rattle.pair_rule.specs.Views as view
use Rattle.pair_rule.specs.Rule.{slot_number}
use Rattle.pair_rule.specs.Seats.{MarkHeld, values}
use Rattle.pair_rule.specs.Steps.{Seat, AreLong}
use Rattle.pair_rule.specs.Marking.{sent_count, shared_count, HasWon, HasOut, laid_at, spot, with_part}
use Rattle.pair_rule.proofs.Rows.{values_row, values_set, values_drop, values_at, slot_at, slots_gone, of_row}

-- the value of a marking seat
abbrev pub held_of : TableId → Seat → ℕ → MarkHeld
held_of t me first = record { table = t; view = me.0; first = first; out = values me.1 }

module _ (t : TableId) (me : Seat) (first : ℕ) (in_row : me.1 ≡ row first (values me.1)) where
  module _ (d c n : ℕ) (is : n ≡ slot_number me.0.geometry d c) where
    pub out_at : (y : Option Buf) → HasOut (held_of t me first) d c y → get_elem? me.1 (n - first) ≡ some (n, y)
    out_at y h = slot_at me.1 first n y in_row (subst (λ (z : ℕ). first ≤ z) (sym is) h.from) (ap (λ (z : ℕ). get_elem? (values me.1) (z - first)) is ∙ h.at)

    pub found_out : (y : Option Buf) → first ≤ slot_number me.0.geometry d c → get_elem? me.1 (n - first) ≡ some (n, y) → HasOut (held_of t me first) d c y
    found_out y low e = record { from = low; at = ap (λ (z : ℕ). get_elem? (values me.1) (z - first)) (sym is) ∙ values_at me.1 (n - first) (n, y) e }

    pub swapped : (y : Option Buf) → held_of t (me.0, set me.1 (n - first) (n, y)) first ≡ record (held_of t me first) { out = set (values me.1) (spot (held_of t me first) d c) y }
    swapped y =
        let out : values (set me.1 (n - first) (n, y)) ≡ set (values me.1) (spot (held_of t me first) d c) y = values_set me.1 (n - first) (n, y) ∙ ap (λ (z : ℕ). set (values me.1) (z - first) y) is in
        ap (λ (z : List (Option Buf)). let s : MarkHeld = record { table = t; view = me.0; first = first; out = z } in s) out

  -- a claim won: at is the slot of the partition's first cell, and count the number of its cells
  pub claim_won : (me' : Seat) (at count shown p : ℕ) (b : List ℕ) → values me.1 ≡ [] → at ≡ slot_number me.0.geometry (round_in shown % me.0.geometry.depth) (first_sent me.0.geometry p) → count ≡ sent_count me.0.geometry p
      → me'.0 ≡ view.claimed (round_in shown) p b (bit_or shown (2 ^ (p % 32))) me.0
      → (ys : List Buf) → me'.1 ≡ row (slot_number me.0.geometry (round_in shown % me.0.geometry.depth) (first_sent me.0.geometry p)) (map Some ys) ++ me.1 → length ys ≡ sent_count me.0.geometry p → AreLong me.0.geometry (first_sent me.0.geometry p) ys
      → (me'.1 ≡ row at (values me'.1)) × (count ≡ length me'.1) × HasWon shown p b (held_of t me first) (held_of t me' at)
  claim_won me' at count shown p b none at_is count_is knows ys went size long =
      let empty : me.1 ≡ [] = in_row ∙ ap (row first) none in
      let is : me'.1 ≡ row at (map Some ys) = went ∙ ((λ i. row (sym at_is i) (map Some ys) ++ empty i) ∙ append-nil (row at (map Some ys))) in (
        of_row me'.1 at (map Some ys) is,
        count_is ∙ (sym size ∙ (sym (length-map ys Some) ∙ (sym (row_length at (map Some ys)) ∙ ap length (sym is)))),
        record {
          table = refl;
          view = knows;
          first = at_is;
          bufs = ys;
          out = ap values is ∙ values_row at (map Some ys);
          count = size;
          long = long;
        },
      )

  -- a lay is done: at is the slot behind those that went home, and n how many they are
  pub lay_done : (me' : Seat) (at count n p i w : ℕ) (x : Pending) → count ≡ length me.1 → n ≡ shared_count me.0.geometry p i → at ≡ first + n
      → me' ≡ (view.laid i x (with_part me.0.geometry i p w) me.0, drop (shared_count me.0.geometry p i) me.1)
      → (me'.1 ≡ row at (values me'.1)) × (count - n ≡ length me'.1) × (held_of t me' at ≡ laid_at p i x w (held_of t me first))
  lay_done me' at count n p i w x size n_is at_is is =
      let m : ℕ = shared_count me.0.geometry p i in
      let gone : me'.1 ≡ drop m me.1 = ap (λ z. z.1) is in
      let start : at ≡ first + m = at_is ∙ ap (λ (z : ℕ). first + z) n_is in
      let out : values me'.1 ≡ drop m (values me.1) = ap values gone ∙ values_drop m me.1 in (
        gone ∙ (slots_gone me.1 first m in_row ∙ (λ j. row (sym start j) (values (sym gone j)))),
        (λ j. size j - n_is j) ∙ (sym (length-drop m me.1) ∙ ap length (sym gone)),
        (λ j. record { table = t; view = (is j).0; first = start j; out = out j }),
      )
