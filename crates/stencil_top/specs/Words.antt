-- What the words of a command line ask for.
use Rattle.std.specs.Prelude.{ℕ, ◌&&◌, bytes_eq, codes, if◌then◌else◌, List, [], ◌∷◌, map, Option, Some, None, Vec}
use Rattle.std.specs.Prelude.{String, string_bytes}
use Rattle.std.specs.declared.alloc.Global.{Global}
use Rattle.stencil_words.specs.Options.{is_value}
use Rattle.stencil_words.specs.Words.{stencil_reading}
use Rattle.stencil_words.specs.declared.words.StencilWords.{StencilWords}
use Rattle.stencil_words.specs.declared.words.Source.{Source}
use Rattle.stencil_words.specs.declared.words.Source.TheVariants.{Grid, Make}
use Rattle.stencil_top.specs.declared.note.TextName.{TextName}
use Rattle.stencil_top.specs.declared.note.TextName.TheVariants as text

-- the bytes of each word
abbrev pub texts : Vec (String Global) Global → List (List ℕ)
texts words = map string_bytes words.items

-- the name of a file, where the words are this command and such a name
abbrev pub named : List ℕ → List (List ℕ) → Option (List ℕ)
named known (command ∷ name ∷ []) = if bytes_eq command known && is_value name then Some name else None
named known _ = None

-- a script or a list of events in a file of this name, or a stencil
pub data Command : Type 0 where
  Script : List ℕ → Command
  Check : List ℕ → Command
  Stencil : StencilWords → Command

abbrev pub stencil_command : Option StencilWords → Option Command
stencil_command (Some w) = Some (Stencil w)
stencil_command None = None

abbrev pub named_or : (List ℕ → Command) → Option (List ℕ) → Option Command → Option Command
named_or command (Some name) other = Some (command name)
named_or command None other = other

-- what the words ask for, where they ask for something
abbrev pub command_of : List (List ℕ) → Option Command
command_of words =
    named_or Script (named (codes "script") words)
    (named_or Check (named (codes "check") words) (stencil_command (stencil_reading words)))

-- the name of the file that has a text, where the command needs it
abbrev pub source_file : Source → TextName → Option (List ℕ)
source_file (Grid grid weights) text.Grid = Some grid
source_file (Grid grid weights) text.Weights = Some weights
source_file (Make size weights) text.Weights = weights
source_file _ _ = None

abbrev pub file_of : Option Command → TextName → Option (List ℕ)
file_of (Some (Script name)) text.Script = Some name
file_of (Some (Check name)) text.Check = Some name
file_of (Some (Stencil w)) which = source_file w.source which
file_of _ _ = None
