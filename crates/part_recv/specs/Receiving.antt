-- The receive end as callers see it, its rounds and its tests.
use Rattle.std.specs.Prelude.{◌≡◌, ℕ, zero, suc, ◌+◌, ◌<◌, ◌≤◌, Bool, true, false, not, ◌==◌, if◌then◌else◌, List, [], map, position, Some, Result, Ok, Err, is_ok}
use Rattle.std.specs.Option.{option_map_or}
use mathlib.Core.Option.{some}
use lib.ListN.{get_elem?}
use Rattle.atomic_table.specs.Seated.{TableId}
use Rattle.part_geometry.specs.declared.TheConstants.{LAST_ROUND}
use Rattle.part_geometry.specs.declared.answers.RecvTest.{RecvTest}
use Rattle.part_geometry.specs.declared.answers.RecvTest.TheVariants.{Idle, Untaken, Out, Done}
use Rattle.part_geometry.specs.declared.answers.StartFault.{StartFault}
use Rattle.part_geometry.specs.declared.answers.StartFault.TheVariants.{AlreadyActive, RoundsSpent}
use Rattle.part_geometry.specs.Shape.{Shape}
use Rattle.pair_core.specs.Names.{take_words}
use Rattle.pair_core.specs.Moves.{IsRecvIdle, IsRecvActive}
use Rattle.slot_rows.specs.declared.lane.Lane.{Lane}
use Rattle.pair_rule.specs.Seats.{RecvHeld, cells_of}
use Rattle.pair_rule.specs.First.{first_view, receiver}
use Rattle.pair_rule.specs.Parts.{place_of, first_shelves, HasLeft}
use Rattle.pair_rule.specs.Views.{stored_return, stored_take, released}
use Rattle.pair_rule.specs.declared.view.View.{View}

-- the table of its pair, what it knows, and of each receive partition whether it was taken in its round and is out
pub record End : Type 0 where
  pub table : TableId
  pub view : View
  pub lanes : List Lane

abbrev pub end_of : RecvHeld → End
end_of s = record { table = s.table; view = s.view; lanes = s.lanes }

abbrev pub is_active : View → Bool
is_active d = d.recv.released == 0

-- the side is active, or idle
abbrev pub IsSide : Bool → View → Type 0
IsSide true d = IsRecvActive d.geometry d.recv
IsSide false d = IsRecvIdle d.recv

-- receive partition q has its shelf, empty and with room for the buffers of its cells
pub record HasShelf (q : ℕ) (s : RecvHeld) : Type 0 where
  pub room : ℕ
  pub there : get_elem? s.shelves q ≡ some (Some record { bufs = []; room = room })
  pub wide : cells_of s.view.geometry q ≤ room

-- a seat that an end may be made of: it is idle, no watcher is out, and each partition has its shelf
pub record IsAtRest (s : RecvHeld) : Type 0 where
  pub idle : IsRecvIdle s.view.recv
  pub alone : s.view.recv.watchers ≡ 0
  pub shelves : (q : ℕ) → q < s.view.geometry.recv_parts → HasShelf q s

-- the receive seat of a new pair is one
abbrev pub FirstRests : Type 0
FirstRests = (g : Shape) (s : RecvHeld) → s.view ≡ receiver (first_view g) → s.shelves ≡ first_shelves g → IsAtRest s

-- What an end keeps of its seat: each slot of a partition that is out is empty or has a buffer of the round, and the
-- other partitions have their shelves.
pub record IsEnd (active : Bool) (watchers : ℕ) (s : RecvHeld) : Type 0 where
  pub side : IsSide active s.view
  pub out : watchers ≡ s.view.recv.watchers
  pub slots : (q : ℕ) (l : Lane) → get_elem? s.lanes q ≡ some l → l.out ≡ true → HasLeft (place_of s.view) q s
  pub shelves : (q : ℕ) (l : Lane) → get_elem? s.lanes q ≡ some l → l.out ≡ false → HasShelf q s

-- a start answers the next round, unless the end is active or this round is the last
abbrev pub start_answer : View → Result ℕ StartFault
start_answer d =
    if is_active d then Err (AlreadyActive d.recv.round) else (
    if d.recv.round == LAST_ROUND then Err RoundsSpent else Ok (d.recv.round + 1))

-- the first n return words are stored, empty for round k; and the first n take words
abbrev pub returns_stored : ℕ → ℕ → View → View
returns_stored k zero d = d
returns_stored k (suc n) d = stored_return k n (returns_stored k n d)

abbrev pub takes_stored : ℕ → View → View
takes_stored zero d = d
takes_stored (suc n) d = stored_take n (takes_stored n d)

-- all return words and then all take words are stored for the next round
abbrev pub opened : View → View
opened d = let n = take_words d.geometry in takes_stored n (returns_stored (d.recv.round + 1) n d)

-- no partition is taken, and none is out
abbrev pub all_untaken : List Lane → List Lane
all_untaken ls = map (λ (l : Lane). record l { taken = false; out = false }) ls

abbrev pub started : End → End
started s = record s { view = opened s.view; lanes = all_untaken s.lanes }

abbrev pub after_start : End → End
after_start s = if is_ok (start_answer s.view) then started s else s

-- a test answers the least partition that isn't taken, else the least that isn't given back, else that the round is
-- released
abbrev pub test_answer : End → RecvTest
test_answer s =
    if not (is_active s.view) then Idle else
    option_map_or Untaken (position (λ (l : Lane). not l.taken) s.lanes)
    (option_map_or Out (position (λ (l : Lane). l.out) s.lanes) Done)

abbrev pub after_answer : RecvTest → End → End
after_answer Done s = record s { view = released s.view }
after_answer _ s = s

abbrev pub after_test : End → End
after_test s = after_answer (test_answer s) s
