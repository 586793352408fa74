-- A list of events as a text: what it says, or its first fault by lines.
use Rattle.std.specs.Prelude.{ℕ, ◌+◌, ◌==◌, Bool, ◌&&◌, nat_le, bytes_eq, codes, if◌then◌else◌, List, [], ◌∷◌}
use Rattle.std.specs.Prelude.{Option, Some, None, option_and_then, Result, Ok, Err}
use Rattle.part_geometry.specs.Shape.{Shape}
use Rattle.part_geometry.specs.Making.{geometry_of}
use Rattle.part_geometry.specs.declared.geometry.GeometryFault.{GeometryFault}
use Rattle.pair_core.specs.declared.event.Event.{Event}
use Rattle.text_words.specs.Numbers.{number_of}
use Rattle.text_words.specs.Lines.{Sentence, sentences_of}
use Rattle.event_check.specs.declared.TheConstants.{MAX_EVENTS, LAST_SEAT, LAST_KIND}
use Rattle.event_check.specs.declared.fault.CheckFault.{CheckFault}
use Rattle.event_check.specs.declared.fault.CheckFault.TheVariants.{NoPair, BadPair, TooMany, BadEvent}

-- the second step, where the first gives a value
infixl 10 ◌>>=◌
abbrev pub ◌>>=◌ : {A B : Type 0} → Option A → (A → Option B) → Option B
o >>= f = option_and_then f o

-- the geometry of six numbers, where they make one
abbrev pub made : Result Shape GeometryFault → Option Shape
made (Ok g) = Some g
made (Err fault) = None

-- the words behind `pair`
abbrev pub geometry_in : List (List ℕ) → Option Shape
geometry_in (send_parts ∷ send_bytes ∷ recv_parts ∷ recv_bytes ∷ grain ∷ depth ∷ []) = do
  p ← number_of send_parts
  s ← number_of send_bytes
  q ← number_of recv_parts
  r ← number_of recv_bytes
  g ← number_of grain
  d ← number_of depth
  made (geometry_of record { send_parts = p; send_bytes = s; recv_parts = q; recv_bytes = r; grain = g; depth = d })
geometry_in _ = None

abbrev pub pair_of : List (List ℕ) → Option Shape
pair_of [] = None
pair_of (command ∷ words) = if bytes_eq command (codes "pair") then geometry_in words else None

-- an event of a list has a seat of at most 65 and a kind from 1 to 13
abbrev pub is_listed : Event → Bool
is_listed e = nat_le e.seat LAST_SEAT && (nat_le 1 e.kind && nat_le e.kind LAST_KIND)

abbrev pub listed : Event → Option Event
listed e = if is_listed e then Some e else None

-- the words behind `e`
abbrev pub event_in : List (List ℕ) → Option Event
event_in (seat ∷ kind ∷ word ∷ round ∷ partition ∷ []) = do
  n ← number_of seat
  k ← number_of kind
  w ← number_of word
  r ← number_of round
  p ← number_of partition
  listed record { seat = n; kind = k; word = w; round = r; partition = p }
event_in _ = None

abbrev pub event_of : List (List ℕ) → Option Event
event_of [] = None
event_of (command ∷ words) = if bytes_eq command (codes "e") then event_in words else None

-- a list: the pair's geometry, and the events in order
pub record Listing : Type 0 where
  pub geometry : Shape
  pub events : List Event

-- the event of a line, and then those of the lines behind it
abbrev pub with_event : ℕ → Option Event → Result (List Event) CheckFault → Result (List Event) CheckFault
with_event line None others = Err (BadEvent line)
with_event line (Some e) (Ok others) = Ok (e ∷ others)
with_event line (Some e) (Err fault) = Err fault

-- the events of some lines, where n events stand before them
abbrev pub events_after : ℕ → List Sentence → Result (List Event) CheckFault
events_after n [] = Ok []
events_after n (s ∷ rest) =
    if n == MAX_EVENTS then Err (TooMany s.number)
    else with_event s.number (event_of s.words) (events_after (n + 1) rest)

-- the geometry of a line, and then the events of the lines behind it
abbrev pub with_pair : ℕ → Option Shape → Result (List Event) CheckFault → Result Listing CheckFault
with_pair line None events = Err (BadPair line)
with_pair line (Some g) (Ok events) = Ok record { geometry = g; events = events }
with_pair line (Some g) (Err fault) = Err fault

-- the first line is the pair, and the others are the events
abbrev pub listing_in : List Sentence → Result Listing CheckFault
listing_in [] = Err NoPair
listing_in (s ∷ rest) = with_pair s.number (pair_of s.words) (events_after 0 rest)

-- what a text says
abbrev pub listing_of : List ℕ → Result Listing CheckFault
listing_of text = listing_in (sentences_of text)
