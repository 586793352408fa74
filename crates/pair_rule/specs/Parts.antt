-- What the steps on receive partitions find, and do to the lanes and slots of the seat that makes them.
use Rattle.std.specs.Prelude.{ℕ, zero, suc, ◌+◌, ◌-◌, ◌*◌, ◌/◌, ◌%◌, ◌^◌, ◌<◌, true, false, bit_or}
use Rattle.std.specs.Prelude.{◌≡◌, slice_index, slice_set, List, [], ◌∷◌, ◌++◌, map, take, drop, length}
use Rattle.std.specs.Prelude.{Option, Some, None, IfSome}
use Rattle.std.specs.List.{range_with_len, flat_map}
use mathlib.Core.Option.{some}
use lib.ListN.{get_elem?}
use Rattle.atomic_table.specs.Table.{Step}
use Rattle.part_geometry.specs.Shape.{Shape}
use Rattle.part_geometry.specs.Cells.{recv_of}
use Rattle.part_tables.specs.Parts.{first_received}
use Rattle.slot_rows.specs.declared.lane.Lane.{Lane}
use Rattle.slot_rows.specs.Lists.{row, spliced, overlaid, Every}
use Rattle.slot_rows.specs.Lanes.{place, flagged}
use Rattle.pair_rule.specs.Buf.{Buf}
use Rattle.pair_rule.specs.Rule.{slot_number, cell_length}
use Rattle.pair_core.specs.Names.{Take, Return}
use Rattle.pair_rule.specs.Views.{seen, taken, given_back, stored_take}
use Rattle.pair_rule.specs.Steps.{Seat, AreOf}
use Rattle.pair_rule.specs.Seats.{RecvHeld, Room, cells_of}
use Rattle.pair_rule.specs.declared.view.View.{View}

-- the number of the slot of receive partition q's first cell at place e
abbrev pub first_slot : Shape → ℕ → ℕ → ℕ
first_slot g e q = slot_number g e (first_received g q)

-- the place of the receive side's round, and that slot there
abbrev pub place_of : View → ℕ
place_of d = d.recv.round % d.geometry.depth

abbrev pub own_slot : View → ℕ → ℕ
own_slot d q = first_slot d.geometry (place_of d) q

-- where the slots of receive partition q stand among those that are out, or would stand
abbrev pub spot : List Lane → ℕ → ℕ
spot lanes q = place lanes q

-- the slots that stand there, as many as the partition has cells, and the list without them
abbrev pub part_slots : Shape → List Lane → ℕ → List (ℕ × Option Buf) → List (ℕ × Option Buf)
part_slots g lanes q slots = take (cells_of g q) (drop (spot lanes q) slots)

abbrev pub without_part : Shape → List Lane → ℕ → List (ℕ × Option Buf) → List (ℕ × Option Buf)
without_part g lanes q slots = take (spot lanes q) slots ++ drop (spot lanes q + cells_of g q) slots

-- n lanes from the k-th on, as far as there are so many, are neither taken nor out; the others are as they were
abbrev pub untaken : ℕ → ℕ → List Lane → List Lane
untaken k n [] = []
untaken zero zero (l ∷ ls) = l ∷ ls
untaken zero (suc n) (l ∷ ls) = record l { taken = false; out = false } ∷ untaken zero n ls
untaken (suc k) n (l ∷ ls) = l ∷ untaken k n ls

-- so are those of the partitions of take word t
abbrev pub fresh_lanes : ℕ → List Lane → List Lane
fresh_lanes t ls = untaken (32 * t) 32 ls

-- the lanes and the shelves before the first round: all partitions are taken and none is out, and each has an empty
-- shelf
abbrev pub first_lane : Shape → ℕ → Lane
first_lane g q = record { first = first_received g q; count = cells_of g q; taken = true; out = false }

abbrev pub first_lanes : Shape → List Lane
first_lanes g = map (first_lane g) (range_with_len 0 g.recv_parts)

abbrev pub first_shelf : Shape → ℕ → Option Room
first_shelf g q = Some record { bufs = []; room = cells_of g q }

abbrev pub first_shelves : Shape → List (Option Room)
first_shelves g = map (first_shelf g) (range_with_len 0 g.recv_parts)

-- What a take of receive partition q finds: a buffer for each of its cells, of the side's round and the cell's length,
-- and their bytes one after another, as many as the partition has, each allowed at its place.
pub record AreTaken (may : ℕ → ℕ → ℕ → Type 0) (d : View) (q : ℕ) (bufs : List Buf) (with : List ℕ) : Type 0 where
  pub size : length bufs ≡ cells_of d.geometry q
  pub of : AreOf d.geometry d.recv.round (first_received d.geometry q) bufs
  pub bytes : flat_map (λ (y : Buf). y.bytes) bufs ≡ with
  pub long : length with ≡ d.geometry.recv_bytes
  pub allowed : (j : ℕ) → j < length with → may d.recv.round (q * d.geometry.recv_bytes + j) (slice_index with j)

-- The views after a take and a return, where the step found a word.
abbrev pub taken_from : ℕ → List ℕ → ℕ → View → View
taken_from q with found d = taken q with (bit_or found (2 ^ (q % 32))) d

abbrev pub returned_from : ℕ → ℕ → View → View
returned_from q found d = given_back q (bit_or found (2 ^ (q % 32))) d

-- The step of a take: those slots go out to the seat, in front of its others. And of a return: they come home. The word
-- found is the one that the seat has last seen.
abbrev pub takes_out : (ℕ → ℕ → ℕ → Type 0) → ℕ → Step (Option Buf) → Seat → ℕ → Seat → Type 0
takes_out may q st me found me' =
    (found ≡ seen me.0 (Take (q / 32))) × (bufs : List Buf) × (with : List ℕ) × AreTaken may me.0 q bufs with
    × (me' ≡ (taken_from q with found me.0, row (own_slot me.0 q) (map Some bufs) ++ me.1))

abbrev pub gives_home : ℕ → Step (Option Buf) → Seat → ℕ → Seat → Type 0
gives_home q st me found me' =
    (found ≡ seen me.0 (Return (q / 32))) × (me' ≡ (returned_from q found me.0, drop (cells_of me.0.geometry q) me.1))

-- The receive seat took partition q, where the step found a word: its slots stand at their place among those that are
-- out.
pub record HasTaken (may : ℕ → ℕ → ℕ → Type 0) (q found : ℕ) (old new : RecvHeld) : Type 0 where
  pub bufs : List Buf
  pub with : List ℕ
  pub are : AreTaken may old.view q bufs with
  pub seat : new ≡ record old {
    view = taken_from q with found old.view;
    lanes = flagged true true q old.lanes;
    slots = spliced (spot old.lanes q) (own_slot old.view q) (map Some bufs) old.slots;
  }

-- the receive seat after it gave partition q back
abbrev pub returned : ℕ → ℕ → RecvHeld → RecvHeld
returned q found held = record held {
  view = returned_from q found held.view;
  lanes = flagged true false q held.lanes;
  slots = without_part held.view.geometry held.lanes q held.slots;
}

-- after it stored take word t
abbrev pub renewed : ℕ → RecvHeld → RecvHeld
renewed t held = record held { view = stored_take t held.view; lanes = fresh_lanes t held.lanes }

-- the slots of receive partition q at place e stand at their place among those that are out, with these values
pub record HasOut (e q : ℕ) (values : List (Option Buf)) (held : RecvHeld) : Type 0 where
  pub size : length values ≡ cells_of held.view.geometry q
  pub stand : part_slots held.view.geometry held.lanes q held.slots ≡ row (first_slot held.view.geometry e q) values

-- and each is a buffer, of the side's round and its cell's length
pub record HasFilled (q : ℕ) (held : RecvHeld) : Type 0 where
  pub bufs : List Buf
  pub out : HasOut (place_of held.view) q (map Some bufs) held
  pub of : AreOf held.view.geometry held.view.recv.round (first_received held.view.geometry q) bufs

-- What a slot has after its buffer was lent: it is empty, or has that buffer still. And the slots of these buffers.
abbrev pub IsLeft : Buf → Option Buf → Type 0
IsLeft b value = IfSome value (λ y. y ≡ b)

abbrev pub AreLeft : List Buf → List (Option Buf) → Type 0
AreLeft [] [] = Unit {0}
AreLeft (b ∷ bs) (v ∷ vs) = IsLeft b v × AreLeft bs vs
AreLeft bs vs = ⊥

-- the buffer that a slot has after b was put into it: its own, if it has one
abbrev pub or_own : Buf → Option Buf → Buf
or_own b None = b
or_own b (Some y) = y

-- of a row of cells from c on, each slot is empty, or has a buffer of round k and its cell's length
abbrev pub MayBeOf : Shape → ℕ → ℕ → List (Option Buf) → Type 0
MayBeOf g k c values =
    Every (λ i value. IfSome value (λ y. (y.round ≡ k) × (length y.bytes ≡ cell_length g i))) c values

-- so it is with the slots of receive partition q at place e, in the side's round
pub record HasLeft (e q : ℕ) (held : RecvHeld) : Type 0 where
  pub values : List (Option Buf)
  pub out : HasOut e q values held
  pub of : MayBeOf held.view.geometry held.view.recv.round (first_received held.view.geometry q) values

-- they have these values from now on
abbrev pub with_values : ℕ → ℕ → List (Option Buf) → RecvHeld → RecvHeld
with_values e q values held = record held {
  slots = overlaid (spot held.lanes q) (first_slot held.view.geometry e q) values held.slots;
}

-- where the slot of cell c stands among them
abbrev pub cell_spot : Shape → List Lane → ℕ → ℕ
cell_spot g lanes c = spot lanes (recv_of g c) + (c - first_received g (recv_of g c))

-- the slot of cell c at place e stands there, and has this value
abbrev pub IsOut : ℕ → ℕ → Option Buf → RecvHeld → Type 0
IsOut e c value held =
    get_elem? held.slots (cell_spot held.view.geometry held.lanes c) ≡ some (slot_number held.view.geometry e c, value)

-- it has this value from now on
abbrev pub with_value : ℕ → ℕ → Option Buf → RecvHeld → RecvHeld
with_value e c value held = record held {
  slots = slice_set held.slots (cell_spot held.view.geometry held.lanes c) (slot_number held.view.geometry e c, value);
}

-- The same of a seat of the table, with the lanes beside it: a take found these buffers, and put their slots in.
abbrev pub WereTaken : (ℕ → ℕ → ℕ → Type 0) → List Lane → ℕ → ℕ → Seat → Seat → Type 0
WereTaken may lanes q found me me' =
    (bufs : List Buf) × (with : List ℕ) × AreTaken may me.0 q bufs with
    × (me' ≡ (taken_from q with found me.0, spliced (spot lanes q) (own_slot me.0 q) (map Some bufs) me.1))

abbrev pub brought_home : List Lane → ℕ → ℕ → Seat → Seat
brought_home lanes q found me = (returned_from q found me.0, without_part me.0.geometry lanes q me.1)

-- the slots of partition q have these values; each is a buffer; each a buffer of the round and its cell's length; and
-- each is empty or such a buffer
abbrev pub IsRow : List Lane → ℕ → ℕ → List (Option Buf) → Seat → Type 0
IsRow lanes e q values me = part_slots me.0.geometry lanes q me.1 ≡ row (first_slot me.0.geometry e q) values

abbrev pub AreFull : List Lane → ℕ → ℕ → Seat → Type 0
AreFull lanes e q me =
    (bufs : List Buf) × (length bufs ≡ cells_of me.0.geometry q) × IsRow lanes e q (map Some bufs) me

abbrev pub AreFilled : List Lane → ℕ → Seat → Type 0
AreFilled lanes q me =
    (bufs : List Buf) × (length bufs ≡ cells_of me.0.geometry q) × IsRow lanes (place_of me.0) q (map Some bufs) me
    × AreOf me.0.geometry me.0.recv.round (first_received me.0.geometry q) bufs

abbrev pub AreLent : List Lane → ℕ → ℕ → Seat → Type 0
AreLent lanes e q me =
    (values : List (Option Buf)) × (length values ≡ cells_of me.0.geometry q) × IsRow lanes e q values me
    × MayBeOf me.0.geometry me.0.recv.round (first_received me.0.geometry q) values

abbrev pub with_part : List Lane → ℕ → ℕ → List (Option Buf) → Seat → Seat
with_part lanes e q values me = (me.0, overlaid (spot lanes q) (first_slot me.0.geometry e q) values me.1)

-- the slot of its cell i, from 0, has this value
abbrev pub IsPartOut : List Lane → ℕ → ℕ → ℕ → Option Buf → Seat → Type 0
IsPartOut lanes e q i value me = get_elem? me.1 (spot lanes q + i) ≡ some (first_slot me.0.geometry e q + i, value)

abbrev pub with_part_value : List Lane → ℕ → ℕ → ℕ → Option Buf → Seat → Seat
with_part_value lanes e q i value me =
    (me.0, slice_set me.1 (spot lanes q + i) (first_slot me.0.geometry e q + i, value))
