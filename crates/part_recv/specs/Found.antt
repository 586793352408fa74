-- What a look at the pieces over a receive partition found: the first that isn't full, or that all are.
use Rattle.std.specs.Prelude.{◌≡◌, ℕ, Option, Some, None}
use Rattle.pair_core.specs.Names.{Piece}
use Rattle.pair_core.specs.Reading.{IsFull}
use Rattle.pair_rule.specs.Views.{seen}
use Rattle.pair_rule.specs.declared.view.View.{View}
use Rattle.part_recv.specs.Seeing.{SeesAll, Misses, place_in}
use Rattle.part_recv.specs.declared.looking.Missed.{Missed}

-- what the receive side has seen full in its round is full in it still
abbrev pub StaysFull : ℕ → ℕ → ℕ → View → Type 0
StaysFull k i w d =
    d.number ≡ 1 → d.recv.released ≡ 0 → k ≡ d.recv.round
    → IsFull d.geometry (seen d (Piece (place_in d k) i)) k i → IsFull d.geometry w k i

abbrev pub Found : ℕ → ℕ → Option Missed → View → View → Type 0
Found k q None old new = SeesAll k q old new
Found k q (Some m) old new = Misses k q m.piece m.shown old new × StaysFull k m.piece m.shown old
