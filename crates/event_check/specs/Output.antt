-- What is told of a list of events.
use Rattle.std.specs.Prelude.{◌≡◌, ◌⊎◌, ℕ, codes, List, [], ◌++◌, ◌∷◌, length, slice_get, Some, Ok}
use Rattle.std.specs.Fmt.{decimal}
use Rattle.part_geometry.specs.Shape.{Shape}
use Rattle.pair_core.specs.Core.{Core}
use Rattle.pair_core.specs.Moves.{Move}
use Rattle.pair_core.specs.History.{Entry, Out, Take, Happened}
use Rattle.pair_core.specs.Laws.{KeepsOrder}
use Rattle.pair_core.specs.State.{Plain}
use Rattle.pair_core.specs.Replaying.{Replayed, IsRefused}
use Rattle.pair_core.specs.declared.event.Event.{Event}
use Rattle.event_check.specs.Lists.{Listing, listing_of}

-- a word and a number, a word and two numbers, each with an LF
abbrev pub count_line : List ℕ → ℕ → List ℕ
count_line word n = word ++ decimal n ++ codes "\n"

abbrev pub entry_line : List ℕ → ℕ → ℕ → List ℕ
entry_line word k n = word ++ decimal k ++ codes " " ++ decimal n ++ codes "\n"

-- the line of a piece that went out and of a partition that was taken, each with its round; other entries have none
abbrev pub line_of : Entry → List ℕ
line_of (Out k i) = entry_line (codes "out ") k i
line_of (Take k q) = entry_line (codes "take ") k q
line_of _ = []

-- the lines of a history, the oldest first; the newest entry stands first in it
abbrev pub lines_of : List Entry → List ℕ
lines_of [] = []
lines_of (e ∷ h) = lines_of h ++ line_of e

-- all n events were made; or the next one, whose place is n counted from 0, isn't allowed then
abbrev pub Ends : Shape → List Event → ℕ → Core Plain → List ℕ → Type 0
Ends g events n s end =
    ((n ≡ length events) × (end ≡ count_line (codes "ran ") n))
    ⊎ ((e : Event) × (slice_get events n ≡ Some e) × IsRefused g s e × (end ≡ count_line (codes "stopped ") n))

-- What is told of some events. The first `count` of them are moves of the core, each allowed, from the first state on;
-- their history is told, and then how it ends.
pub record IsTold (g : Shape) (events : List Event) (output : List ℕ) : Type 0 where
  pub count : ℕ
  pub moves : List (Move Plain)
  pub core : Core Plain
  pub history : List Entry
  pub end : List ℕ
  pub replayed : Replayed g events count moves core history
  pub happened : Happened g moves core history
  pub ends : Ends g events count core end
  pub output_is : output ≡ lines_of history ++ end

-- the output of a text
pub record IsOutput (text output : List ℕ) : Type 0 where
  pub listing : Listing
  pub listing_is : listing_of text ≡ Ok listing
  pub told : IsTold listing.geometry listing.events output

-- What is told is a history that keeps the order of the core: each piece goes out once, after its marks, and each
-- partition is taken once, after every piece over it; and so on.
pub record TellsInOrder (text output : List ℕ) : Type 0 where
  pub listing : Listing
  pub listing_is : listing_of text ≡ Ok listing
  pub history : List Entry
  pub end : List ℕ
  pub keeps : KeepsOrder listing.geometry history
  pub output_is : output ≡ lines_of history ++ end

-- a text has one output at most
abbrev pub IsOneOutput : Type 0
IsOneOutput = (text a b : List ℕ) → IsOutput text a → IsOutput text b → a ≡ b
