-- What a take and a return do to the receive seat and its shelves.
use Rattle.std.specs.Prelude.{◌≡◌, ℕ, ◌/◌, ◌≤◌, true, false, List, [], slice_set, Option, Some, None}
use mathlib.Core.Option.{some}
use lib.ListN.{get_elem?}
use Rattle.pair_core.specs.Names.{Take, Return}
use Rattle.slot_rows.specs.Lists.{spliced}
use Rattle.slot_rows.specs.Lanes.{flagged}
use Rattle.slot_rows.specs.declared.lane.Lane.{Lane}
use Rattle.pair_rule.specs.Buf.{Buf}
use Rattle.pair_rule.specs.Views.{seen}
use Rattle.pair_rule.specs.Seats.{RecvHeld, Room, cells_of}
use Rattle.pair_rule.specs.Parts.{AreTaken, AreLeft, spot, own_slot, taken_from, returned}
use Rattle.part_recv.specs.Taking.{bytes_in}

-- partition q was taken, and its buffers are on the shelf; its slots are empty, or have them still
pub record PartTaken (may : ℕ → ℕ → ℕ → Type 0) (q : ℕ) (shelf : Room) (old new : RecvHeld) : Type 0 where
  pub are : AreTaken may old.view q shelf.bufs (bytes_in shelf.bufs)
  pub room : cells_of old.view.geometry q ≤ shelf.room
  pub left : List (Option Buf)
  pub leaves : AreLeft shelf.bufs left
  pub seat : new ≡ record old {
    view = taken_from q (bytes_in shelf.bufs) (seen old.view (Take (q / 32))) old.view;
    lanes = flagged true true q old.lanes;
    slots = spliced (spot old.lanes q) (own_slot old.view q) left old.slots;
    shelves = slice_set old.shelves q None;
  }

-- the seat after partition q was given back with the buffers of a shelf, which is empty then
abbrev pub part_returned : ℕ → Room → RecvHeld → RecvHeld
part_returned q shelf s = record (returned q (seen s.view (Return (q / 32))) s) {
  shelves = slice_set s.shelves q (Some record { bufs = []; room = shelf.room });
}

-- no lane is out
abbrev pub AreHome : List Lane → Type 0
AreHome ls = (q : ℕ) (l : Lane) → get_elem? ls q ≡ some l → l.out ≡ false
