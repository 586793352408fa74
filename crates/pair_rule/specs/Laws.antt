-- What holds of every table with the rule: what the views of its seats say of each other, and where each step leads.
use Rattle.std.specs.Prelude.{◌≡◌, ◌≢◌, ◌⊎◌, ℕ, ◌+◌, ◌-◌, ◌*◌, ◌/◌, ◌%◌, ◌<◌, ◌≤◌}
use Rattle.std.specs.Prelude.{List, [], length, map, replicate, slice_index, Contains, Option, Some}
use mathlib.Core.Option.{some, none}
use mathlib.Core.Option as maybe
use lib.ListN.{get_elem?}
use Rattle.gate_word.specs.Words.{round_in}
use Rattle.part_geometry.specs.Shape.{Shape}
use Rattle.part_tables.specs.Parts.{first_received, first_shared}
use Rattle.pair_core.specs.Names.{Claim}
use Rattle.pair_core.specs.Core.{times}
use Rattle.pair_core.specs.Steps.{mark}
use Rattle.pair_core.specs.Moves.{Move, TryClaim, LayPiece, TakePart, ReturnPart, after}
use Rattle.pair_core.specs.declared.view.Mark.{Mark}
use Rattle.pair_core.specs.declared.view.Pending.{Pending}
use Rattle.pair_rule.specs.Addresses.{address}
use Rattle.pair_rule.specs.Buf.{Buf}
use Rattle.pair_rule.specs.Rule.{At, Rule, MayMark}
use Rattle.pair_rule.specs.Views.{seen}
use Rattle.pair_rule.specs.Steps.{MayMake, AreCuts, AreOf}
use Rattle.pair_rule.specs.Seats.{cells_of}
use Rattle.pair_rule.specs.Marking.{sent_count, sent_slot, shared_count, shared_slot}
use Rattle.pair_rule.specs.Parts.{first_slot}
use Rattle.pair_rule.specs.declared.view.View.{View}
use Rattle.pair_rule.specs.declared.view.Standing.TheVariants.{Seated}
use Rattle.pair_rule.specs.declared.rule.Key.{Key}

-- the table's seat i has the view d
abbrev pub HasView : At → ℕ → View → Type 0
HasView s i d = (get_elem? s.views i ≡ some d) × (d.standing ≡ Seated)

-- place x of the message lies in partition p, where each has so many bytes; and the byte of a mark or a take for it
abbrev pub LiesIn : ℕ → ℕ → ℕ → Type 0
LiesIn bytes p x = (p * bytes ≤ x) × (x < (p + 1) * bytes)

abbrev pub byte_for : ℕ → Mark (List ℕ) → ℕ → ℕ
byte_for bytes m x = slice_index m.with (x - m.partition * bytes)

-- a mark and a take of one round both have place x, with one byte
pub record Shares (g : Shape) (m t : Mark (List ℕ)) (x : ℕ) : Type 0 where
  pub round : m.round ≡ t.round
  pub place : LiesIn g.send_bytes m.partition x
  pub byte : byte_for g.recv_bytes t x ≡ byte_for g.send_bytes m x

-- Any two views of a table. Takes are those in the view of number 1, the receive side's.
pub record AreConsistent (g : Shape) (s : At) : Type 0 where
  -- no two seats have one number
  pub numbers : (i j : ℕ) (d e : View) → HasView s i d → HasView s j e → d.number ≡ e.number → i ≡ j
  -- a partition is marked at most once in a round: in one view alone, and once there
  pub one_view : (i j : ℕ) (d e : View) (k p : ℕ) → HasView s i d → HasView s j e
      → 1 ≤ times k p d.marks → 1 ≤ times k p e.marks → i ≡ j
  pub once : (i : ℕ) (d : View) (k p : ℕ) → HasView s i d → times k p d.marks ≤ 1
  -- at each place that a mark and a take of one round share, they have one byte
  pub same_byte : (i j : ℕ) (d e : View) (m t : Mark (List ℕ)) (x : ℕ) → HasView s i d → HasView s j e → e.number ≡ 1
      → Contains d.marks m → Contains e.takes t → m.round ≡ t.round → LiesIn g.send_bytes m.partition x
      → LiesIn g.recv_bytes t.partition x
      → byte_for g.recv_bytes t x ≡ byte_for g.send_bytes m x
  -- each byte of a take was marked: some view has a mark of the take's round that has the place, with that byte
  pub all_marked : (j : ℕ) (e : View) (t : Mark (List ℕ)) (x : ℕ) → HasView s j e → e.number ≡ 1 → Contains e.takes t
      → LiesIn g.recv_bytes t.partition x
      → (i : ℕ) × (d : View) × (m : Mark (List ℕ)) × HasView s i d × Contains d.marks m × Shares g m t x

module _ {T : Type 0} (may : T → ℕ → ℕ → ℕ → Type 0) where
  abbrev pub ViewsAreConsistent : Type 0
  ViewsAreConsistent = (key : Key T) (s : At) → Rule may key s → AreConsistent key.geometry s

-- what a table has at some slots in a row: buffers that are home, or nothing, where so many are out
abbrev pub Row : Type 0
Row = List (maybe.Option (Option Buf))

abbrev pub at_home : List Buf → Row
at_home bufs = map (λ (y : Buf). some (Some y)) bufs

abbrev pub all_out : ℕ → Row
all_out n = replicate n none

-- the slots from one on become a row, and all others stay as they were
pub record RowBecomes (old new : Row) (first : ℕ) (row : Row) : Type 0 where
  pub here : (j : ℕ) → j < length row → get_elem? new (first + j) ≡ get_elem? row j
  pub elsewhere : (j : ℕ) → (j < first) ⊎ (first + length row ≤ j) → get_elem? new j ≡ get_elem? old j

-- the kinds of step that move no slot
abbrev pub MovesNoSlot : Move (List ℕ) → Type 0
MovesNoSlot (TryClaim n p b) = ⊥
MovesNoSlot (LayPiece n p i) = ⊥
MovesNoSlot (TakePart q b) = ⊥
MovesNoSlot (ReturnPart q) = ⊥
MovesNoSlot m = Unit {0}

-- The claim x of partition p pends, and these are buffers of the cells that it shares with piece i, each filled for the
-- claim's round with its part of the mark's bytes.
pub record AreFilled (g : Shape) (d : View) (p i : ℕ) (x : Pending) (bufs : List Buf) : Type 0 where
  pub pends : d.pending ≡ Some x
  pub bytes : List ℕ
  pub marked : Contains d.marks (mark x.round p bytes)
  pub count : length bufs ≡ shared_count g p i
  pub cuts : AreCuts g x.round bytes (first_shared g p i) bufs

-- these are buffers of the cells of partition q, each of its cell's length and of the receive side's round
pub record AreReturned (g : Shape) (d : View) (q : ℕ) (bufs : List Buf) : Type 0 where
  pub count : length bufs ≡ cells_of g q
  pub of : AreOf g d.recv.round (first_received g q) bufs

-- the number of the slot of partition q's first cell at the place of the receive side's round
abbrev pub round_slot : Shape → View → ℕ → ℕ
round_slot g d q = first_slot g (d.recv.round % g.depth) q

-- the claim word of partition p in the table, and as the seat has last seen it
abbrev pub claim_word : Shape → At → ℕ → ℕ
claim_word g s p = slice_index s.words (address g (Claim (p / 32)))

abbrev pub seen_claim : View → ℕ → ℕ
seen_claim d p = seen d (Claim (p / 32))

module _ {T : Type 0} (may : T → ℕ → ℕ → ℕ → Type 0) where
  -- A step of the seat i leads from a table with the rule to one with the rule, which shows the core after the move. No
  -- other seat's view is changed, and of the slots only the row from the first one on is.
  pub record LeadsTo (key : Key T) (s : At) (r : Rule may key s) (i : ℕ) (m : Move (List ℕ)) (first : ℕ) (row : Row)
      : Type 0 where
    pub to : At
    pub rule : Rule may key to
    pub shows : rule.core ≡ after key.geometry r.core m
    pub others : (j : ℕ) → j ≢ i → get_elem? to.views j ≡ get_elem? s.views j
    pub slots : RowBecomes s.homes to.homes first row

  -- Where each step leads that the seat i may make, whose view is d.
  pub record LeadOn (key : Key T) (s : At) (r : Rule may key s) (i : ℕ) (d : View) : Type 0 where
    -- a step that moves no slot asks nothing else
    pub quiet : (m : Move (List ℕ)) → MayMake d m → MovesNoSlot m → LeadsTo key s r i m 0 []
    -- An exchange for a claim wins where it finds the word last seen: it asks of the bytes that they may be marked, and
    -- the partition's slots go out. Else it is a look, and asks nothing else.
    pub claim_won : (n p : ℕ) (b : List ℕ) → MayMake d (TryClaim n p b) → claim_word key.geometry s p ≡ seen_claim d p
        → MayMark may key (round_in (seen_claim d p)) p b
        → LeadsTo key s r i (TryClaim n p b) (sent_slot key.geometry (round_in (seen_claim d p)) p)
        (all_out (sent_count key.geometry p))
    pub claim_lost : (n p : ℕ) (b : List ℕ) → MayMake d (TryClaim n p b)
        → claim_word key.geometry s p ≢ seen_claim d p
        → LeadsTo key s r i (TryClaim n p b) 0 []
    -- a lay asks of the buffers that come home that they are filled
    pub lay : (n p j : ℕ) (x : Pending) (bufs : List Buf) → MayMake d (LayPiece n p j)
        → AreFilled key.geometry d p j x bufs
        → LeadsTo key s r i (LayPiece n p j) (shared_slot key.geometry x.round p j) (at_home bufs)
    -- a take asks nothing else: the partition's slots go out, with the bytes that it finds
    pub part_taken : (q : ℕ) → MayMake d (TakePart q [])
        → (b : List ℕ)
        × LeadsTo key s r i (TakePart q b) (round_slot key.geometry d q) (all_out (cells_of key.geometry q))
    -- a return asks of the buffers that come home that they are the partition's
    pub part_returned : (q : ℕ) (bufs : List Buf) → MayMake d (ReturnPart q) → AreReturned key.geometry d q bufs
        → LeadsTo key s r i (ReturnPart q) (round_slot key.geometry d q) (at_home bufs)

  abbrev pub StepsLeadOn : Type 0
  StepsLeadOn = (key : Key T) (s : At) (r : Rule may key s) (i : ℕ) (d : View) → HasView s i d → LeadOn key s r i d
