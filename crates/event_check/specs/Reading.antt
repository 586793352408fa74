-- What the lines that are left make of what was read so far: for private functions.
use Rattle.std.specs.Prelude.{◌≡◌, ◌≢◌, ℕ, ◌+◌, List, ◌∷◌, ◌++◌, length, Option, Some, None, Result, Ok, Err}
use Rattle.part_geometry.specs.Shape.{Shape}
use Rattle.pair_core.specs.declared.event.Event.{Event}
use Rattle.text_words.specs.Lines.{Sentence, sentences_from}
use Rattle.event_check.specs.Lists.{Listing, events_after, listing_in}
use Rattle.event_check.specs.declared.fault.CheckFault.{CheckFault}
use Rattle.event_check.specs.declared.fault.CheckFault.TheVariants.{NoMemory}

-- the events that were read, and then these
abbrev pub with_front : Shape → List Event → Result (List Event) CheckFault → Result Listing CheckFault
with_front g events (Ok others) = Ok record { geometry = g; events = events ++ others }
with_front g events (Err fault) = Err fault

-- what the whole text says, where these lines are left behind the pair
abbrev pub body_of : Listing → List Sentence → Result Listing CheckFault
body_of read rest = with_front read.geometry read.events (events_after (length read.events) rest)

-- the same, where nothing may have been read
abbrev pub whole_of : Option Listing → List Sentence → Result Listing CheckFault
whole_of None rest = listing_in rest
whole_of (Some read) rest = body_of read rest

-- reading the first line, and one behind it, changes nothing of what the whole says
abbrev pub Begins : Listing → Sentence → Type 0
Begins new s = (rest : List Sentence) → body_of new rest ≡ listing_in (s ∷ rest)

abbrev pub Goes : Listing → Listing → Sentence → Type 0
Goes old new s = (rest : List Sentence) → body_of new rest ≡ body_of old (s ∷ rest)

-- the fault of a line is that of the whole
abbrev pub IsFault : (List Sentence → Result Listing CheckFault) → Sentence → CheckFault → Type 0
IsFault whole s fault = fault ≢ NoMemory → (rest : List Sentence) → whole (s ∷ rest) ≡ Err fault

-- the same of a line of bytes, which may be skipped
abbrev pub GoesLine : Option Listing → Option Listing → ℕ → List ℕ → Type 0
GoesLine old new n line =
    (rest : List (List ℕ)) → whole_of new (sentences_from (n + 1) rest) ≡ whole_of old (sentences_from n (line ∷ rest))

abbrev pub IsLineFault : Option Listing → ℕ → List ℕ → CheckFault → Type 0
IsLineFault old n line fault =
    fault ≢ NoMemory → (rest : List (List ℕ)) → whole_of old (sentences_from n (line ∷ rest)) ≡ Err fault
