-- What a text says as a whole: a script, or the first fault by lines.
use Rattle.std.specs.Prelude.{◌≡◌, ℕ, ◌<◌, Bool, true, false, ◌&&◌, bytes_eq, codes, if◌then◌else◌, List, [], ◌∷◌, drop, Option, Some, None, Result, Ok, Err}
use Rattle.part_geometry.specs.declared.TheConstants.{MAX_GRAIN, MAX_DEPTH, MAX_RANKS}
use Rattle.script_text.specs.Words.{◌>>=◌, when, is_within}
use Rattle.text_words.specs.Numbers.{number_of}
use Rattle.text_words.specs.Lines.{Sentence, sentences_of, words_at, HasLine}
use Rattle.script_text.specs.Calls.{call_of}
use Rattle.script_text.specs.declared.call.Call.{Call}
use Rattle.script_text.specs.declared.fault.ScriptFault.{ScriptFault}
use Rattle.script_text.specs.declared.fault.ScriptFault.TheVariants.{NoWorld, BadWorld, AfterEnd, BadLine, NoEnd, NoMemory}

-- the numbers of a world: how many ranks it has, the least bytes of a piece, and how many rounds may be in flight
pub record World : Type 0 where
  pub ranks : ℕ
  pub grain : ℕ
  pub depth : ℕ

-- they are within their limits
abbrev pub is_world : World → Bool
is_world w = is_within 1 MAX_RANKS w.ranks && is_within 1 MAX_GRAIN w.grain && is_within 1 MAX_DEPTH w.depth

abbrev pub within_limits : World → Option World
within_limits w = when (is_world w) w

-- the words behind `world`
abbrev pub world_of : List (List ℕ) → Option World
world_of (ranks ∷ grain ∷ depth ∷ []) = do
  r ← number_of ranks
  g ← number_of grain
  d ← number_of depth
  within_limits record { ranks = r; grain = g; depth = d }
world_of _ = None

-- the first word is `world`
abbrev pub is_headed : List (List ℕ) → Bool
is_headed [] = false
is_headed (word ∷ words) = bytes_eq word (codes "world")

-- a script: its world, and its calls up to `end`
pub record Contents : Type 0 where
  pub world : World
  pub calls : List Call

-- a line that is just `end`
abbrev pub is_end : List (List ℕ) → Bool
is_end (word ∷ []) = bytes_eq word (codes "end")
is_end _ = false

-- behind `end` stands no line
abbrev pub after_end : List Sentence → Result (List Call) ScriptFault
after_end [] = Ok []
after_end (s ∷ rest) = Err (AfterEnd s.number)

-- the call of line n, and then those of the lines behind it
abbrev pub with_call : ℕ → Option Call → Result (List Call) ScriptFault → Result (List Call) ScriptFault
with_call n None others = Err (BadLine n)
with_call n (Some call) (Ok others) = Ok (call ∷ others)
with_call n (Some call) (Err fault) = Err fault

-- the calls of lines up to `end`
abbrev pub calls_of : List Sentence → Result (List Call) ScriptFault
calls_of [] = Err NoEnd
calls_of (s ∷ rest) = if is_end s.words then after_end rest else with_call s.number (call_of s.words) (calls_of rest)

-- the world of line n, and then the calls of the lines behind it
abbrev pub with_world : ℕ → Option World → Result (List Call) ScriptFault → Result Contents ScriptFault
with_world n None calls = Err (BadWorld n)
with_world n (Some world) (Ok calls) = Ok record { world = world; calls = calls }
with_world n (Some world) (Err fault) = Err fault

-- line n of these words, as the first one: it has to be `world`
abbrev pub first_of : ℕ → List (List ℕ) → Result (List Call) ScriptFault → Result Contents ScriptFault
first_of n [] calls = Err (NoWorld n)
first_of n (word ∷ words) calls =
    if bytes_eq word (codes "world") then with_world n (world_of words) calls else Err (NoWorld n)

-- the first line is the world, and the others are the calls
abbrev pub contents_of : List Sentence → Result Contents ScriptFault
contents_of [] = Err NoEnd
contents_of (s ∷ rest) = first_of s.number s.words (calls_of rest)

-- what a text says
abbrev pub script_of : List ℕ → Result Contents ScriptFault
script_of text = contents_of (sentences_of text)

-- what a fault says of the line that it names: it is one of the text that isn't skipped, and
abbrev pub IsFaultOf : List ℕ → ScriptFault → Type 0
-- its first word isn't `world`
IsFaultOf text (NoWorld n) = HasLine text n × (is_headed (words_at text n) ≡ false)
-- its first word is `world`, and the words behind it are no world
IsFaultOf text (BadWorld n) =
    HasLine text n × (is_headed (words_at text n) ≡ true) × (world_of (drop 1 (words_at text n)) ≡ None)
-- a line before it is `end`
IsFaultOf text (AfterEnd n) = HasLine text n × (m : ℕ) × HasLine text m × (m < n) × (is_end (words_at text m) ≡ true)
-- it calls nothing
IsFaultOf text (BadLine n) = HasLine text n × (call_of (words_at text n) ≡ None)
-- no line is `end`
IsFaultOf text NoEnd = (n : ℕ) → HasLine text n → is_end (words_at text n) ≡ false
IsFaultOf text NoMemory = Unit {0}
