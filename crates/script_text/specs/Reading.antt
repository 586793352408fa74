-- What the lines that are left make of what was read so far.
use Rattle.std.specs.Prelude.{◌≡◌, ◌≢◌, ℕ, ◌+◌, Bool, List, ◌∷◌, ◌++◌, Option, Some, None, Result, Ok, Err, if◌then◌else◌}
use Rattle.text_words.specs.Lines.{Sentence, sentences_from}
use Rattle.script_text.specs.Script.{World, Contents, after_end, calls_of, contents_of}
use Rattle.script_text.specs.declared.call.Call.{Call}
use Rattle.script_text.specs.declared.fault.ScriptFault.{ScriptFault}
use Rattle.script_text.specs.declared.fault.ScriptFault.TheVariants.{NoMemory}

-- what was read: the world, the calls, and whether `end` was among the lines
pub record Read : Type 0 where
  pub world : World
  pub calls : List Call
  pub ended : Bool

-- the calls that were read, and then these
abbrev pub with_front : World → List Call → Result (List Call) ScriptFault → Result Contents ScriptFault
with_front world calls (Ok others) = Ok record { world = world; calls = calls ++ others }
with_front world calls (Err fault) = Err fault

-- the calls of the lines that are left; none may be left behind `end`
abbrev pub rest_of : Bool → List Sentence → Result (List Call) ScriptFault
rest_of ended rest = if ended then after_end rest else calls_of rest

-- what the whole text says, where these lines are left behind the world
abbrev pub body_of : Read → List Sentence → Result Contents ScriptFault
body_of read rest = with_front read.world read.calls (rest_of read.ended rest)

-- the same, where nothing may have been read
abbrev pub whole_of : Option Read → List Sentence → Result Contents ScriptFault
whole_of None rest = contents_of rest
whole_of (Some read) rest = body_of read rest

-- reading the first line, and one behind it, changes nothing of what the whole says
abbrev pub Begins : Read → Sentence → Type 0
Begins new s = (rest : List Sentence) → body_of new rest ≡ contents_of (s ∷ rest)

abbrev pub Goes : Read → Read → Sentence → Type 0
Goes old new s = (rest : List Sentence) → body_of new rest ≡ body_of old (s ∷ rest)

-- the fault of a line is that of the whole
abbrev pub IsFault : (List Sentence → Result Contents ScriptFault) → Sentence → ScriptFault → Type 0
IsFault whole s fault = fault ≢ NoMemory → (rest : List Sentence) → whole (s ∷ rest) ≡ Err fault

-- the same of a line of bytes, which may be skipped
abbrev pub GoesLine : Option Read → Option Read → ℕ → List ℕ → Type 0
GoesLine old new n line =
    (rest : List (List ℕ)) → whole_of new (sentences_from (n + 1) rest) ≡ whole_of old (sentences_from n (line ∷ rest))

abbrev pub IsLineFault : Option Read → ℕ → List ℕ → ScriptFault → Type 0
IsLineFault old n line fault =
    fault ≢ NoMemory → (rest : List (List ℕ)) → whole_of old (sentences_from n (line ∷ rest)) ≡ Err fault
