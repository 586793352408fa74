-- What a state keeps, and which core it shows.
use Rattle.std.specs.Prelude.{◌≡◌, ◌≢◌, ℕ, ◌+◌, ◌-◌, ◌*◌, ◌^◌, ◌<◌, ◌≤◌, List, [], length, map, replicate, min}
use Rattle.std.specs.Prelude.{slice_index, slice_index_or, slice_get, Some, None}
use Rattle.std.specs.List.{range_with_len}
use Rattle.part_geometry.specs.declared.walk.Cell.{Cell}
use Rattle.part_geometry.specs.declared.TheConstants.{LAST_ROUND}
use Rattle.part_geometry.specs.Shape.{Shape, IsShape}
use Rattle.part_geometry.specs.Cells.{cells}
use Rattle.part_geometry.specs.Pieces.{pieces, first_part, need_count}
use Rattle.part_geometry.specs.Walk.{cell_at}
use Rattle.pair_core.specs.Names.{Name, claim_words, take_words, Fits, number}
use Rattle.pair_core.specs.Core.{Core, Slot, Home, Out}
use Rattle.pair_core.specs.Moves.{first_word}
use Rattle.pair_core.specs.Sound.{IsNew}
use Rattle.pair_core.specs.declared.view.Mark.{Mark}
use Rattle.pair_core.specs.declared.view.SendSide.{SendSide}
use Rattle.pair_core.specs.declared.view.RecvSide.{RecvSide}
use Rattle.pair_core.specs.declared.view.Life.TheVariants.{Blank, Live}
use Rattle.pair_core.specs.declared.seat.Seat.{Seat}
use Rattle.pair_core.specs.declared.seat.Spot.{Spot}
use Rattle.pair_core.specs.declared.seat.Spot.TheVariants.{Filled, Lent}

-- the tables of a geometry: its cells, and of each piece the first send partition and how many it touches
pub record AreTables (g : Shape) (all : List Cell) (firsts counts : List ℕ) : Type 0 where
  pub shape : IsShape g
  pub cells_are : all ≡ map (cell_at g) (range_with_len 0 (cells g))
  pub firsts_are : firsts ≡ map (first_part g) (range_with_len 0 (pieces g))
  pub counts_are : counts ≡ map (need_count g) (range_with_len 0 (pieces g))

-- how many words a pair has
abbrev pub word_count : Shape → ℕ
word_count g = claim_words g + 1 + 2 * take_words g + g.depth * pieces g

-- a mark that nothing more is kept of
abbrev pub Plain : Type 0
Plain = Unit {0}

-- the seat at a place of the list
abbrev pub IsAt : List Seat → ℕ → ℕ → Type 0
IsAt seats at n = (v : Seat) × (slice_get seats at ≡ Some v) × (v.seat ≡ n)

-- What holds of each state. It has a word and a slot for each number, and a view of each seat that it has met, of the
-- two sides first.
pub record IsKept (g : Shape) (words : List ℕ) (slots : List Spot) (send : SendSide) (recv : RecvSide)
    (seats : List Seat) : Type 0 where
  pub words_size : length words ≡ word_count g
  pub slots_size : length slots ≡ g.depth * cells g
  pub sent : send.round ≤ LAST_ROUND
  pub received : recv.round ≤ LAST_ROUND
  pub two : 2 ≤ length seats
  pub send_seat : (v : Seat) → slice_get seats 0 ≡ Some v → v.seat ≡ 0
  pub recv_seat : (v : Seat) → slice_get seats 1 ≡ Some v → v.seat ≡ 1
  pub seen : (at : ℕ) (v : Seat) → slice_get seats at ≡ Some v → length v.seen.items ≡ word_count g
  pub looks : (at : ℕ) (v : Seat) → slice_get seats at ≡ Some v → length v.looks.items ≡ word_count g
  pub numbers : (at : ℕ) (v : Seat) → slice_get seats at ≡ Some v → v.seat < 2 ^ 32
  pub once : (a b : ℕ) (v w : Seat) → slice_get seats a ≡ Some v → slice_get seats b ≡ Some w → v.seat ≡ w.seat → a ≡ b
  pub out : send.markers + recv.watchers + 2 ≤ length seats

-- a list has the words of a pair, each at its number
abbrev pub ListsWords : Shape → List ℕ → (Name → ℕ) → Type 0
ListsWords g list word = (x : Name) → Fits g x → slice_index list (number g x) ≡ word x

-- and the looks at each: a count that reached the last number of 64 bits stands still there
abbrev pub ListsLooks : Shape → List ℕ → (Name → ℕ) → Type 0
ListsLooks g list looks = (x : Name) → Fits g x → slice_index list (number g x) ≡ min (looks x) (2 ^ 64 - 1)

abbrev pub slot_of : Spot → Slot
slot_of (Filled k) = Home k
slot_of (Lent n) = Out n

-- a list has the slots of a pair, each at its place and cell
abbrev pub ListsSlots : Shape → List Spot → (ℕ → ℕ → Slot) → Type 0
ListsSlots g list slot =
    (d c : ℕ) → d < g.depth → c < cells g → slot_of (slice_index_or list (d * cells g + c) (Filled 0)) ≡ slot d c

-- a seat that is kept has its view
pub record IsView (g : Shape) (v : Seat) (core : Core Plain) : Type 0 where
  pub live : core.life v.seat ≡ Live
  pub seen : ListsWords g v.seen.items (core.seen v.seat)
  pub looks : ListsLooks g v.looks.items (core.looks v.seat)
  pub pending : v.pending ≡ core.pending v.seat
  pub marks : v.marks ≡ core.marks v.seat

-- a seat as it is met: it has seen the first words, and did nothing
pub record IsFresh (g : Shape) (v : Seat) : Type 0 where
  pub seen : ListsWords g v.seen.items (first_word g)
  pub seen_size : length v.seen.items ≡ word_count g
  pub looks : v.looks.items ≡ replicate (word_count g) 0
  pub pending : v.pending ≡ None
  pub marks : v.marks ≡ []

-- and any other seat is blank
pub record IsBlank (g : Shape) (n : ℕ) (core : Core Plain) : Type 0 where
  pub blank : core.life n ≡ Blank
  pub new : IsNew g (core.seen n) (core.looks n) (core.pending n) (core.marks n)

-- what is kept shows a core
pub record Stands (g : Shape) (words : List ℕ) (slots : List Spot) (send : SendSide) (recv : RecvSide)
    (seats : List Seat) (takes : List (Mark Plain)) (core : Core Plain) : Type 0 where
  pub words_are : ListsWords g words core.word
  pub slots_are : ListsSlots g slots core.slot
  pub send_are : send ≡ core.send
  pub recv_are : recv ≡ core.recv
  pub seats_are : (at : ℕ) (v : Seat) → slice_get seats at ≡ Some v → IsView g v core
  pub others_are : (n : ℕ) → ((at : ℕ) (v : Seat) → slice_get seats at ≡ Some v → v.seat ≢ n) → IsBlank g n core
  pub takes_are : takes ≡ core.takes
