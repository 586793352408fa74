-- The steps of a marking seat that move slots: a claim that wins, and a lay.
use Rattle.std.specs.Prelude.{◌≡◌, ◌≢◌, ℕ, ◌+◌, ◌-◌, ◌/◌, ◌%◌, ◌^◌, ◌≤◌, List, ◌++◌, length, map, drop, Contains}
use Rattle.std.specs.Prelude.{bit_or, Option, Some}
use Rattle.gate_word.specs.Words.{round_in}
use Rattle.gate_word.specs.Order.{IsLater}
use Rattle.part_geometry.specs.Shape.{Shape}
use Rattle.part_geometry.specs.Pieces.{first_part}
use Rattle.atomic_table.specs.Table.{Step}
use Rattle.part_tables.specs.Parts.{first_sent, first_shared, after_shared}
use Rattle.pair_core.specs.Names.{Claim, Piece}
use Rattle.pair_core.specs.Reading.{laid}
use Rattle.pair_core.specs.Steps.{mark}
use Rattle.pair_core.specs.Moves.{MayLay}
use Rattle.pair_core.specs.declared.view.Pending.{Pending}
use Rattle.slot_rows.specs.Lists.{row}
use Rattle.pair_rule.specs.Buf.{Buf}
use Rattle.pair_rule.specs.Views as view
use Rattle.pair_rule.specs.Rule.{slot_number}
use Rattle.pair_rule.specs.Steps.{Seat, AreLong, AreCuts}
use Rattle.pair_rule.specs.Seats.{MarkHeld}
use Rattle.pair_rule.specs.declared.view.View.{View}
use mathlib.Core.Option.{some}
use lib.ListN.{get_elem?}

-- how many cells send partition p has, and how many it shares with piece i
abbrev pub sent_count : Shape → ℕ → ℕ
sent_count g p = first_sent g (p + 1) - first_sent g p

abbrev pub shared_count : Shape → ℕ → ℕ → ℕ
shared_count g p i = after_shared g p i - first_shared g p i

-- the number of the slot of the first of those cells at the round's place
abbrev pub sent_slot : Shape → ℕ → ℕ → ℕ
sent_slot g k p = slot_number g (k % g.depth) (first_sent g p)

abbrev pub shared_slot : Shape → ℕ → ℕ → ℕ → ℕ
shared_slot g k p i = slot_number g (k % g.depth) (first_shared g p i)

-- a word of piece i with the bit of partition p set
abbrev pub with_part : Shape → ℕ → ℕ → ℕ → ℕ
with_part g i p w = bit_or w (2 ^ (p - first_part g i))

-- A claim of partition p won, in the round of the claim word that was shown. The buffers of the partition's cells at
-- the round's place are out with the seat.
pub record HasWon (shown p : ℕ) (b : List ℕ) (old new : MarkHeld) : Type 0 where
  pub table : new.table ≡ old.table
  pub view : new.view ≡ view.claimed (round_in shown) p b (bit_or shown (2 ^ (p % 32))) old.view
  pub first : new.first ≡ sent_slot old.view.geometry (round_in shown) p
  pub bufs : List Buf
  pub out : new.out ≡ map Some bufs
  pub count : length bufs ≡ sent_count old.view.geometry p
  pub long : AreLong old.view.geometry (first_sent old.view.geometry p) bufs

-- The claim of partition p in round k pends and may be laid into piece i. The first of the slots that are out are those
-- of the cells that both share, each filled for the round with its part of the mark's bytes.
pub record IsFilled (k p i : ℕ) (d : View) (first : ℕ) (out : List (Option Buf)) : Type 0 where
  pub pending : Pending
  pub pends : d.pending ≡ Some pending
  pub round : pending.round ≡ k
  pub lays : MayLay d.geometry pending p i
  pub bytes : List ℕ
  pub marked : Contains d.marks (mark k p bytes)
  pub starts : first ≡ shared_slot d.geometry k p i
  pub bufs : List Buf
  pub others : List (Option Buf)
  pub slots : out ≡ map Some bufs ++ others
  pub count : length bufs ≡ shared_count d.geometry p i
  pub cuts : AreCuts d.geometry k bytes (first_shared d.geometry p i) bufs

-- the same seat after the lay, where x was pending and the lay found the word w: those slots are home
abbrev pub laid_at : ℕ → ℕ → Pending → ℕ → MarkHeld → MarkHeld
laid_at p i x w s = record {
  table = s.table;
  view = view.laid i x (with_part s.view.geometry i p w) s.view;
  first = s.first + shared_count s.view.geometry p i;
  out = drop (shared_count s.view.geometry p i) s.out;
}

-- what the exchange tells: it wins where it found the word that it was shown
abbrev pub tries : ℕ → List ℕ → Step (Option Buf) → Seat → ℕ → Seat → Type 0
tries p b st me found me' =
    let g = me.0.geometry in let k = round_in st.first in
    (found ≡ st.first → (me'.0 ≡ view.claimed k p b (bit_or st.first (2 ^ (p % 32))) me.0)
    × ((ys : List Buf) × (me'.1 ≡ row (sent_slot g k p) (map Some ys) ++ me.1)
    × (length ys ≡ sent_count g p) × AreLong g (first_sent g p) ys))
    × (found ≢ st.first → me' ≡ (view.saw (Claim (p / 32)) found me.0, me.1))
    × IsLater st.first found

-- what the lay tells: it found the piece's word in the round of the claim, and without the partition; it is the one
-- that the seat has last seen, or later
abbrev pub lays : ℕ → ℕ → Step (Option Buf) → Seat → ℕ → Seat → Type 0
lays p i st me found me' = (x : Pending) → me.0.pending ≡ Some x
    → (me' ≡ (view.laid i x (with_part me.0.geometry i p found) me.0, drop (shared_count me.0.geometry p i) me.1))
    × (round_in found ≡ x.round) × (laid me.0.geometry found i p ≡ 0)
    × IsLater (view.seen me.0 (Piece (x.round % me.0.geometry.depth) i)) found

-- the number in the seat's list of the slot of cell c at place d
abbrev pub spot : MarkHeld → ℕ → ℕ → ℕ
spot s d c = slot_number s.view.geometry d c - s.first

-- cell c at place d: its slot is out to the seat, and holds this
pub record HasOut (s : MarkHeld) (d c : ℕ) (held : Option Buf) : Type 0 where
  pub from : s.first ≤ slot_number s.view.geometry d c
  pub at : get_elem? s.out (spot s d c) ≡ some held
