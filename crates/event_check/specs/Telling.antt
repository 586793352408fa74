-- What is told of an event, and of the events so far: for private functions.
use Rattle.std.specs.Prelude.{◌≡◌, ℕ, codes, List, [], ◌++◌, Option, Some, None}
use Rattle.part_geometry.specs.Shape.{Shape}
use Rattle.pair_core.specs.Core.{Core}
use Rattle.pair_core.specs.Moves.{Move}
use Rattle.pair_core.specs.History.{Entry, Happened}
use Rattle.pair_core.specs.State.{Plain}
use Rattle.pair_core.specs.Replaying.{Replayed}
use Rattle.pair_core.specs.declared.event.Event.{Event}
use Rattle.event_check.specs.Output.{entry_line, lines_of}
use Rattle.event_check.specs.declared.walk.Applied.{Applied}

-- the line of an entry, where there is one
abbrev pub line_for : List ℕ → Option (ℕ × ℕ) → List ℕ
line_for word None = []
line_for word (Some entry) = entry_line word entry.0 entry.1

-- the lines of an event
abbrev pub lines_for : Applied → List ℕ
lines_for made = line_for (codes "out ") made.out ++ line_for (codes "take ") made.take

-- the first n events were made, this holds of the core that they lead to, and their history is told
pub record Told (g : Shape) (events : List Event) (n : ℕ) (Holds : Core Plain → Type 0) (text : List ℕ) : Type 0 where
  pub moves : List (Move Plain)
  pub core : Core Plain
  pub history : List Entry
  pub replayed : Replayed g events n moves core history
  pub happened : Happened g moves core history
  pub holds : Holds core
  pub text_is : text ≡ lines_of history
