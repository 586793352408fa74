-- A pair and its seats, as callers see them.
use Rattle.part_geometry.specs.declared.TheConstants.{LAST_ROUND}
use Rattle.std.specs.Prelude.{◌≡◌, ℕ, ◌+◌, ◌-◌, ◌/◌, ◌<◌, ◌≤◌, Bool, true, false, List, [], ◌∷◌, length, map, Option}
use mathlib.Core.Option.{some}
use lib.ListN.{get_elem?}
use Rattle.std.specs.List.{range_with_len}
use Rattle.atomic_table.specs.Seated.{TableId}
use Rattle.gate_word.specs.Words.{round_in}
use Rattle.part_geometry.specs.Shape.{Shape}
use Rattle.part_tables.specs.Parts.{first_received}
use Rattle.pair_core.specs.Names.{Release, Take, Return, take_words}
use Rattle.pair_core.specs.Reading.{part_bit}
use Rattle.pair_core.specs.Moves.{IsRecvActive}
use Rattle.pair_core.specs.State.{word_count}
use Rattle.slot_rows.specs.declared.lane.Lane.{Lane}
use Rattle.slot_rows.specs.Lanes.{wide}
use Rattle.pair_core.specs.declared.view.Mark.{Mark}
use Rattle.pair_rule.specs.Buf.{Buf}
use Rattle.pair_rule.specs.Rule.{bytes_of}
use Rattle.pair_rule.specs.Views.{seen}
use Rattle.pair_rule.specs.declared.view.View.{View}
use Rattle.pair_rule.specs.declared.rule.Key.{Key}

-- a pair: its table, its geometry and its tag
pub record PairOf (T : Type 0) : Type 0 where
  pub table : TableId
  pub key : Key T

-- a seat with no slots: its table, and what it knows
pub record Held : Type 0 where
  pub table : TableId
  pub view : View

-- what holds of the send side's view: it shuts a round only where it has seen room for the next one
pub record IsSendView (d : View) : Type 0 where
  pub number : d.number ≡ 0
  pub words : length d.seen ≡ word_count d.geometry
  pub counts : length d.looks ≡ word_count d.geometry
  pub limit : d.send.round ≤ LAST_ROUND
  pub room : 1 ≤ d.send.shut → d.send.round < round_in (seen d Release) + d.geometry.depth

-- a marking seat also has the slots that are out with it: so many, numbered from the first on, each with its buffer or
-- empty
pub record MarkHeld : Type 0 where
  pub table : TableId
  pub view : View
  pub first : ℕ
  pub out : List (Option Buf)

-- the values of some slots
abbrev pub values : {S : Type 0} → List (ℕ × S) → List S
values [] = []
values (x ∷ xs) = x.1 ∷ values xs

-- how many cells receive partition q has
abbrev pub cells_of : Shape → ℕ → ℕ
cells_of g q = first_received g (q + 1) - first_received g q

-- buffers, and how many there is room for
pub record Room : Type 0 where
  pub bufs : List Buf
  pub room : ℕ

-- The receive seat has a lane for each receive partition, and the slots of the lanes that are out, in their order;
-- and an empty vector with room for the buffers of each partition, where it hasn't been taken out.
pub record RecvHeld : Type 0 where
  pub table : TableId
  pub view : View
  pub lanes : List Lane
  pub slots : List (ℕ × Option Buf)
  pub shelves : List (Option Room)

abbrev pub flag : Bool → ℕ
flag true = 1
flag false = 0

-- The lane of receive partition q: its cells, whether it was taken in the round of its take word, and whether its slots
-- are out, which is only while the side is active. Until then no return word and no take word that is stored has it.
pub record IsLane (d : View) (q : ℕ) (l : Lane) : Type 0 where
  pub first : l.first ≡ first_received d.geometry q
  pub count : l.count ≡ cells_of d.geometry q
  pub taken : part_bit (λ t. seen d (Take t)) q ≡ flag l.taken
  pub out : IsRecvActive d.geometry d.recv → part_bit (λ t. seen d (Return t)) q + flag l.out ≡ flag l.taken
  pub home : ¬ IsRecvActive d.geometry d.recv → l.out ≡ false
  pub unreturned : d.recv.takes < take_words d.geometry → q / 32 < d.recv.returns
      → part_bit (λ t. seen d (Return t)) q ≡ 0
  pub untaken : d.recv.takes < take_words d.geometry → q / 32 < d.recv.takes → l.taken ≡ false

-- n: how many slots are out with the seat. The take words are stored after all return words are.
pub record AreLanes (d : View) (n : ℕ) (ls : List Lane) : Type 0 where
  pub words : length d.seen ≡ word_count d.geometry
  pub round : d.recv.round ≤ LAST_ROUND
  pub order : 1 ≤ d.recv.takes → d.recv.returns ≡ take_words d.geometry
  pub parts : length ls ≡ d.geometry.recv_parts
  pub total : n ≡ wide ls
  pub each : (q : ℕ) (l : Lane) → get_elem? ls q ≡ some l → IsLane d q l

-- a seat or a note belongs to a pair
abbrev pub IsOf : {T : Type 0} → TableId → View → PairOf T → Type 0
IsOf table d pair = (table ≡ pair.table) × (d.geometry ≡ pair.key.geometry)

-- the bytes of each round up to one, and in it of each send partition, in order
abbrev pub rounds_of : Shape → ℕ → List (Mark (List ℕ)) → List (List (List ℕ))
rounds_of g n marks = map (λ k. map (bytes_of marks k) (range_with_len 0 g.send_parts)) (range_with_len 1 n)

-- a pair that was closed
pub record ClosedOf : Type 0 where
  pub geometry : Shape
  pub sent : ℕ
  pub received : ℕ
  pub pieces_out : ℕ
  pub rounds : List (List (List ℕ))

-- what it keeps is the view that both sides had
abbrev pub rounds_in : List View → List (List (List ℕ))
rounds_in [] = []
rounds_in (d ∷ ds) = rounds_of d.geometry d.send.round d.marks
