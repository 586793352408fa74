-- What a run does, whether files are told or not.
use Rattle.std.specs.Prelude.{◌≡◌, ◌⊎◌, ℕ, List, Option, Some, None, IfSome, IsSome, IsSomeAnd, ⊤}
use Rattle.part_io.specs.Causes.{Rose}
use Rattle.part_io.specs.Sink.{Adds}
use Rattle.stencil_top.specs.Words.{Command, file_of}
use Rattle.stencil_top.specs.Outcome.{Outcome, Texts, Ends, noted, texts_in}
use Rattle.stencil_top.specs.declared.status.Status.{Status}
use Rattle.stencil_top.specs.declared.status.Status.TheVariants.{Done}
use Rattle.stencil_top.specs.declared.note.TextName.{TextName}
use Rattle.stencil_top.specs.declared.note.Note.{Note}
use Rattle.stencil_top.specs.declared.note.Note.TheVariants.{Usage, TooLong, BadScript, BadList, BadText}
use Rattle.stencil_top.specs.declared.note.Note.TheVariants.{TooManyRanks, TooManyTiles, CannotRead, CannotWrite}
use Rattle.stencil_top.specs.declared.note.Note.TheVariants.{OutOfMemory}

-- the files, by name, where they are told
abbrev pub Files : Type 0
Files = Option (List ℕ → Option (List ℕ))

-- the name of the file of each text that is needed
abbrev pub Needs : Type 0
Needs = TextName → Option (List ℕ)

-- where the files are told, these are the texts in those that are needed
abbrev pub AreIn : Needs → Files → Texts → Type 0
AreIn needs files read =
    IfSome files (λ held. (which : TextName) → IsSome (needs which) → read which ≡ texts_in needs held which)

-- with some texts, which where the files are told are those in them, a command has an outcome of which this holds
pub record Explains (command : Option Command) (files : Files) (Says : Outcome → Type 0) : Type 0 where
  pub texts : Texts
  pub end : Outcome
  pub found : AreIn (file_of command) files texts
  pub ends : Ends command texts end
  pub says : Says end

-- the file of this text is needed, and a fault was counted or there is no such file
pub record IsUnread (needs : Needs) (files : Files) (before now : ℕ) (which : TextName) : Type 0 where
  pub file : List ℕ
  pub needed : needs which ≡ Some file
  pub cause : Rose before now ⊎ IsSomeAnd files (λ held. held file ≡ None)

-- the outcome is the note of this cause
abbrev pub IsNoted : Note → Option Command → Files → Type 0
IsNoted cause command files = Explains command files (λ end. end ≡ noted cause)

-- what the command and the files say where this cause is noted
abbrev pub IsCause : Note → Option Command → Files → ℕ → ℕ → Type 0
IsCause Usage command files before now = command ≡ None
IsCause (TooLong which) command files before now = IsNoted (TooLong which) command files
IsCause (BadScript fault) command files before now = IsNoted (BadScript fault) command files
IsCause (BadList fault) command files before now = IsNoted (BadList fault) command files
IsCause (BadText which fault) command files before now = IsNoted (BadText which fault) command files
IsCause (TooManyRanks ranks rows) command files before now = IsNoted (TooManyRanks ranks rows) command files
IsCause (TooManyTiles tile_rows tile_cols rows cols) command files before now =
    IsNoted (TooManyTiles tile_rows tile_cols rows cols) command files
IsCause (CannotRead which) command files before now =
    IsUnread (file_of command) files before now which × (¬ Rose before now → IsNoted (CannotRead which) command files)
IsCause CannotWrite command files before now = Explains command files (λ end. end.status ≡ Done)
IsCause OutOfMemory command files before now = ⊤

-- a run ended with this outcome; its note may be cut where the sink for notes has counted a fault
pub record IsOutcome (end : Outcome) (status : Status) (out out' note note' : Option (List ℕ))
    (before now : ℕ) : Type 0 where
  pub status_is : status ≡ end.status
  pub output : Adds out out' end.output
  pub noted : ¬ Rose before now → Adds note note' end.note

-- the command needs no file
abbrev pub NeedsNone : Needs → Type 0
NeedsNone needs = (which : TextName) → needs which ≡ None

-- a run ended with the outcome of its command with the texts in these files
pub record EndsAsTold (command : Option Command) (held : List ℕ → Option (List ℕ)) (status : Status)
    (out out' note note' : Option (List ℕ)) (before now : ℕ) : Type 0 where
  pub end : Outcome
  pub ends : Ends command (texts_in (file_of command) held) end
  pub is : IsOutcome end status out out' note note' before now
