-- What looks, takes and returns of the receive end answer, and what the end is then.
use Rattle.std.specs.Prelude.{◌≡◌, ℕ, ◌+◌, ◌*◌, ◌/◌, ◌<◌, ◌≤◌, true, false, List, length, slice_index}
use Rattle.std.specs.List.{flat_map}
use mathlib.Core.Option.{some}
use lib.ListN.{get_elem?}
use Rattle.part_geometry.specs.Shape.{Shape}
use Rattle.part_tables.specs.Parts.{first_received}
use Rattle.pair_core.specs.Names.{Take, Return}
use Rattle.slot_rows.specs.declared.lane.Lane.{Lane}
use Rattle.slot_rows.specs.Lanes.{flagged, HasFlags}
use Rattle.pair_rule.specs.Buf.{Buf}
use Rattle.pair_rule.specs.Seats.{Room, cells_of}
use Rattle.pair_rule.specs.Steps.{AreOf}
use Rattle.pair_rule.specs.Views.{seen}
use Rattle.pair_rule.specs.Parts.{taken_from, returned_from}
use Rattle.pair_rule.specs.declared.view.View.{View}
use Rattle.part_recv.specs.Seeing.{SeesAll, Misses}
use Rattle.part_recv.specs.Watching.{IsNew}
use Rattle.part_recv.specs.Receiving.{End, is_active}
use Rattle.part_recv.specs.declared.answers.EndLook.{EndLook}
use Rattle.part_recv.specs.declared.answers.EndLook.TheVariants as look
use Rattle.part_recv.specs.declared.answers.TakeRefusal.{TakeRefusal}
use Rattle.part_recv.specs.declared.answers.TakeRefusal.TheVariants.{Idle, BadPartition, AlreadyTaken, NotYet}

-- the bytes of a receive partition in a round, as callers see what was taken
pub record Arrived : Type 0 where
  pub geometry : Shape
  pub round : ℕ
  pub partition : ℕ
  pub bytes : List ℕ

-- the bytes of buffers, one after another
abbrev pub bytes_in : List Buf → List ℕ
bytes_in bufs = flat_map (λ (y : Buf). y.bytes) bufs

-- what is kept of them: a buffer for each cell of the partition, of the round and the cell's length
pub record IsArrival (g : Shape) (k q : ℕ) (shelf : Room) : Type 0 where
  pub part : q < g.recv_parts
  pub size : length shelf.bufs ≡ cells_of g q
  pub of : AreOf g k (first_received g q) shelf.bufs
  pub long : length (bytes_in shelf.bufs) ≡ g.recv_bytes
  pub room : cells_of g q ≤ shelf.room

-- it was taken from this end in its round, and isn't given back
pub record IsOut (a : Arrived) (s : End) : Type 0 where
  pub geometry : a.geometry ≡ s.view.geometry
  pub round : a.round ≡ s.view.recv.round
  pub out : HasFlags true true a.partition s.lanes

-- the end is active, and has a partition q
abbrev pub MayLook : ℕ → End → Type 0
MayLook q s = (is_active s.view ≡ true) × (q < s.view.geometry.recv_parts)

-- the end looked at the pieces over partition q, and piece i, with the word w, is the first that isn't full in its
-- round; the end had not seen it full before
pub record Looked (q i w : ℕ) (old new : End) : Type 0 where
  pub view : View
  pub misses : Misses old.view.recv.round q i w old.view view
  pub new_to : IsNew old.view.recv.round i old.view
  pub end : new ≡ record old { view = view }

-- the end looked at the pieces over partition q, and all are full in its round
pub record LookedAll (q : ℕ) (old new : End) : Type 0 where
  pub view : View
  pub sees : SeesAll old.view.recv.round q old.view view
  pub end : new ≡ record old { view = view }

-- whether partition q has arrived
abbrev pub IsEndLook : ℕ → EndLook → End → End → Type 0
IsEndLook q look.Idle old new = (is_active old.view ≡ false) × (new ≡ old)
IsEndLook q look.BadPartition old new = (is_active old.view ≡ true) × (old.view.geometry.recv_parts ≤ q) × (new ≡ old)
IsEndLook q (look.NotYet i w) old new = MayLook q old × Looked q i w old new
IsEndLook q look.Arrived old new = MayLook q old × LookedAll q old new

-- whether partition q was taken in the end's round
abbrev pub IsTaken : ℕ → End → Type 0
IsTaken q s = (l : Lane) × (get_elem? s.lanes q ≡ some l) × (l.taken ≡ true)

-- why a partition isn't taken
abbrev pub IsRefused : ℕ → TakeRefusal → End → End → Type 0
IsRefused q Idle old new = (is_active old.view ≡ false) × (new ≡ old)
IsRefused q BadPartition old new = (is_active old.view ≡ true) × (old.view.geometry.recv_parts ≤ q) × (new ≡ old)
IsRefused q (AlreadyTaken k) old new = MayLook q old × IsTaken q old × (k ≡ old.view.recv.round) × (new ≡ old)
IsRefused q (NotYet i w) old new = MayLook q old × HasFlags false false q old.lanes × Looked q i w old new

-- why it may be: it isn't taken in the round, and all pieces over it are full
abbrev pub MayTake : ℕ → End → End → Type 0
MayTake q old new = MayLook q old × HasFlags false false q old.lanes × LookedAll q old new

-- the end with partition q taken in its round with these bytes, and with q given back
abbrev pub took : ℕ → List ℕ → End → End
took q b s = record s {
  view = taken_from q b (seen s.view (Take (q / 32))) s.view;
  lanes = flagged true true q s.lanes;
}

abbrev pub gave_back : ℕ → End → End
gave_back q s = record s {
  view = returned_from q (seen s.view (Return (q / 32))) s.view;
  lanes = flagged true false q s.lanes;
}

-- Partition q was taken: all its pieces were seen full in the end's round, and it wasn't taken before. The take has the
-- bytes of the arrival, as many as the partition has, each allowed at its place.
pub record Takes (may : ℕ → ℕ → ℕ → Type 0) (q : ℕ) (a : Arrived) (old new : End) : Type 0 where
  pub active : MayLook q old
  pub free : HasFlags false false q old.lanes
  pub at : End
  pub looks : LookedAll q old at
  pub arrival : a ≡ record {
    geometry = old.view.geometry;
    round = old.view.recv.round;
    partition = q;
    bytes = a.bytes;
  }
  pub end : new ≡ took q a.bytes at
  pub long : length a.bytes ≡ old.view.geometry.recv_bytes
  pub allowed : (j : ℕ) → j < length a.bytes
      → may old.view.recv.round (q * old.view.geometry.recv_bytes + j) (slice_index a.bytes j)
