-- A take lends the buffers of a partition onto its shelf, and a return puts them back: the slots that are out are the same but for
-- the partition's own.
use Rattle.std.proofs.Common.{◌≡◌, ℕ, zero, suc, ◌/◌, ◌<◌, ◌≤◌, Bool, true, false, List, [], ◌∷◌, map, length, take, drop, Option, Some, refl, sym, ap, ◌∙◌, subst, arith}
use mathlib.Core.Option.{some}
use lib.ListN.{get_elem?, length-map}
use Rattle.part_geometry.specs.Shape.{Shape}
use Rattle.part_tables.specs.Parts.{first_received}
use Rattle.pair_core.specs.Names.{Take, Return}
use Rattle.slot_rows.specs.declared.lane.Lane.{Lane}
use Rattle.slot_rows.specs.Lists.{row, spliced, overlaid}
use Rattle.slot_rows.specs.Lanes.{place, flagged, HasFlags}
use Rattle.slot_rows.proofs.Lanes.{wide_below, flagged_place, flags_here}
use Rattle.slot_rows.proofs.Overlays.{block_taken, same_row, over_spliced, overlaid_block}
use Rattle.pair_rule.specs.Buf.{Buf}
use Rattle.pair_rule.specs.Views.{seen}
use Rattle.pair_rule.specs.Steps.{AreOf}
use Rattle.pair_rule.specs.Seats.{RecvHeld, Room, AreLanes, cells_of}
use Rattle.pair_rule.specs.Parts.{HasTaken, HasOut, HasFilled, AreTaken, AreLeft, with_values, returned, taken_from, returned_from, without_part, own_slot, first_slot, place_of, spot}
use Rattle.pair_rule.proofs.Leaving.{left_length}
use Rattle.part_recv.specs.Taking.{bytes_in}

-- there is a lane at each number below their count
pub lane_at : (ls : List Lane) (q : ℕ) → q < length ls → (l : Lane) × (get_elem? ls q ≡ some l)
lane_at [] q h = absurd (omega arith)
lane_at (l ∷ ls) zero h = (l, refl)
lane_at (l ∷ ls) (suc q) h = lane_at ls q (omega arith)

-- the slots of a partition begin within those that are out
pub place_fits : (s : RecvHeld) (q : ℕ) → AreLanes s.view (length s.slots) s.lanes → place s.lanes q ≤ length s.slots
place_fits s q lanes = let a = wide_below q s.lanes in let b = lanes.total in omega arith

-- a partition's lane has the flags that were put for it
pub flags_out : (t o : Bool) (q : ℕ) (ls : List Lane) → q < length ls → HasFlags t o q (flagged t o q ls)
flags_out t o q ls h = let l = lane_at ls q h in flags_here l.0.taken l.0.out t o q ls record { lane = l.0; at = l.1; taken = refl; out = refl }

-- a shelf that stands at a number is one
pub shelf_one : (a b : Room) → some (Some a) ≡ some (Some b) → a ≡ b
shelf_one a b e = cc

-- ---- a take

module _ (may : ℕ → ℕ → ℕ → Type 0) (q e found : ℕ) (s t : RecvHeld) (lanes : AreLanes s.view (length s.slots) s.lanes) (there : e ≡ place_of s.view) (h : HasTaken may q found s t) where
  -- its lane is taken and out then
  pub taken_flags : q < s.view.geometry.recv_parts → HasFlags true true q t.lanes
  taken_flags part =
      subst (λ (z : RecvHeld). HasFlags true true q z.lanes) (sym h.seat) (flags_out true true q s.lanes (let n = lanes.parts in omega arith))

  -- its slots have the buffers that were taken
  pub taken_values : HasOut e q (map Some h.bufs) t
  taken_values =
      let g : Shape = s.view.geometry in
      subst (λ (z : RecvHeld). HasOut e q (map Some h.bufs) z) (sym h.seat) record {
        size = length-map h.bufs Some ∙ h.are.size;
        stand =
            block_taken (own_slot s.view q) (cells_of g q) (cells_of g q) (place s.lanes q) (place (flagged true true q s.lanes) q) h.bufs s.slots
            (spliced (place s.lanes q) (own_slot s.view q) (map Some h.bufs) s.slots) refl (flagged_place true true q s.lanes) refl (place_fits s q lanes) h.are.size
            ∙ ap (λ (z : ℕ). row (first_slot g z q) (map Some h.bufs)) (sym there);
      }

  same_bufs : (bufs : List Buf) → HasOut e q (map Some bufs) t → h.bufs ≡ bufs
  same_bufs bufs out = same_row (first_slot t.view.geometry e q) h.bufs bufs (sym taken_values.stand ∙ out.stand)

  lent_slots : (left : List (Option Buf)) → length left ≡ cells_of s.view.geometry q
      → overlaid (place (flagged true true q s.lanes) q) (first_slot s.view.geometry e q) left (spliced (place s.lanes q) (own_slot s.view q) (map Some h.bufs) s.slots)
      ≡ spliced (place s.lanes q) (own_slot s.view q) left s.slots
  lent_slots left size =
      let g : Shape = s.view.geometry in
      (λ i. overlaid (flagged_place true true q s.lanes i) (first_slot g (there i) q) left (spliced (place s.lanes q) (own_slot s.view q) (map Some h.bufs) s.slots))
      ∙ over_spliced (place s.lanes q) (own_slot s.view q) (cells_of g q) left (map Some h.bufs) s.slots (place_fits s q lanes) size (length-map h.bufs Some ∙ h.are.size)

  -- with the buffers lent onto the shelf, the seat is the one before with q taken and its slots as they were left
  pub lent_seat : (shelf : Room) (left : List (Option Buf)) (n : RecvHeld) → n ≡ with_values e q left t → AreLeft shelf.bufs left → HasOut e q (map Some shelf.bufs) t → found ≡ seen s.view (Take (q / 32))
      → n ≡ record s {
        view = taken_from q (bytes_in shelf.bufs) (seen s.view (Take (q / 32))) s.view;
        lanes = flagged true true q s.lanes;
        slots = spliced (spot s.lanes q) (own_slot s.view q) left s.slots;
      }
  lent_seat shelf left n is leaves out word =
      let same = same_bufs shelf.bufs out in
      let with : h.with ≡ bytes_in shelf.bufs = sym h.are.bytes ∙ ap bytes_in same in
      let size : length left ≡ cells_of s.view.geometry q = left_length shelf.bufs left leaves ∙ (sym (ap length same) ∙ h.are.size) in
      is ∙ (ap (λ (z : RecvHeld). with_values e q left z) h.seat
      ∙ (λ i. record s { view = taken_from q (with i) (word i) s.view; lanes = flagged true true q s.lanes; slots = lent_slots left size i }))

  -- the buffers of the shelf are what the take found, with their bytes
  pub lent_are : (shelf : Room) → HasOut e q (map Some shelf.bufs) t → AreTaken may s.view q shelf.bufs (bytes_in shelf.bufs)
  lent_are shelf out =
      let same = same_bufs shelf.bufs out in
      subst (λ (z : List Buf × List ℕ). AreTaken may s.view q z.0 z.1) (λ i. (same i, (sym h.are.bytes ∙ ap bytes_in same) i)) h.are

-- ---- a return

module _ (q e : ℕ) (s : RecvHeld) (bufs : List Buf) (lanes : AreLanes s.view (length s.slots) s.lanes) (there : e ≡ place_of s.view) (full : length bufs ≡ cells_of s.view.geometry q) where
  -- the seat with these buffers in the slots, and the shelf in its place
  abbrev pub filled_seat : List (Option Room) → RecvHeld
  filled_seat shelves = record (with_values e q (map Some bufs) s) { shelves = shelves }

  block : (take (cells_of s.view.geometry q) (drop (place s.lanes q) (overlaid (place s.lanes q) (first_slot s.view.geometry e q) (map Some bufs) s.slots)) ≡ row (first_slot s.view.geometry e q) (map Some bufs))
      × (without_part s.view.geometry s.lanes q (overlaid (place s.lanes q) (first_slot s.view.geometry e q) (map Some bufs) s.slots) ≡ without_part s.view.geometry s.lanes q s.slots)
  block = overlaid_block (place s.lanes q) (first_slot s.view.geometry e q) (cells_of s.view.geometry q) (map Some bufs) s.slots (place_fits s q lanes) (length-map bufs Some ∙ full)

  -- the slots are filled then, each with a buffer of the round and of its cell's length
  pub filled_values : (shelves : List (Option Room)) → AreOf s.view.geometry s.view.recv.round (first_received s.view.geometry q) bufs → HasFilled q (filled_seat shelves)
  filled_values shelves of = record {
    bufs = bufs;
    out = record {
      size = length-map bufs Some ∙ full;
      stand = block.0 ∙ ap (λ (z : ℕ). row (first_slot s.view.geometry z q) (map Some bufs)) there;
    };
    of = of;
  }

  -- to give q back from there is to give it back from the seat as it was, with those shelves
  pub back_seat : (shelves : List (Option Room)) (found : ℕ) → found ≡ seen s.view (Return (q / 32))
      → returned q found (filled_seat shelves) ≡ record (returned q (seen s.view (Return (q / 32))) s) { shelves = shelves }
  back_seat shelves found word =
      λ i. record s { view = returned_from q (word i) s.view; lanes = flagged true false q s.lanes; slots = block.1 i; shelves = shelves }
