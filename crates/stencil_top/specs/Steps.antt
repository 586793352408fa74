-- What the parts of a run do, whether files are told or not: for private functions.
use Rattle.std.specs.Prelude.{◌≡◌, ◌⊎◌, ℕ, ◌<◌, ◌≤◌, List, length, Option, Some, None, Result, Ok, Err, Vec, IfSome}
use Rattle.std.specs.Prelude.{IsSome, IsSomeAnd, ⊤}
use Rattle.std.specs.declared.alloc.Global.{Global}
use Rattle.part_io.specs.Causes.{Rose}
use Rattle.stencil_words.specs.declared.words.StencilWords.{StencilWords}
use Rattle.stencil_words.specs.declared.words.TileWords.{TileWords}
use Rattle.stencil_top.specs.Words.{Command}
use Rattle.event_check.specs.Lists.{Listing}
use Rattle.stencil_top.specs.Outcome.{IsCheckOutput, Texts, answered, limit_of, rank_plan, tile_plan}
use Rattle.stencil_top.specs.Run.{AreIn, Explains, Files, IsCause, IsUnread, Needs}
use Rattle.stencil_top.specs.declared.note.TextName.{TextName}
use Rattle.stencil_top.specs.declared.reading.Inputs.{Inputs}
use Rattle.stencil_top.specs.declared.stencil.Sharing.{Sharing}
use Rattle.stencil_top.specs.declared.stencil.Sharing.TheVariants.{Ranks, Tiles}
use Rattle.stencil_top.specs.declared.note.Note.{Note}
use Rattle.stencil_top.specs.declared.note.Note.TheVariants.{Usage, TooLong, CannotRead, CannotWrite, OutOfMemory}

-- what the reading of a file found: its text, where there is one
abbrev pub FindsText : TextName → ℕ → ℕ → Files → Option (List ℕ) → Result (Vec ℕ Global) Note → Type 0
FindsText which before now files found (Ok text) = (found ≡ Some text.items) × (length text.items ≤ limit_of which)
FindsText which before now files found (Err (TooLong w)) = (w ≡ which) ×
    IsSomeAnd found (λ text. limit_of which < length text)
FindsText which before now files found (Err (CannotRead w)) = (w ≡ which) ×
    (Rose before now ⊎ (IsSome files × (found ≡ None)))
FindsText which before now files found (Err OutOfMemory) = ⊤
FindsText which before now files found (Err _) = ⊥

pub record ReadsFile (files : Files) (which : TextName) (name : List ℕ)
    (before now : ℕ) (result : Result (Vec ℕ Global) Note) : Type 0 where
  pub found : Option (List ℕ)
  pub held : IfSome files (λ held. held name ≡ found)
  pub finds : FindsText which before now files found result

-- only a reading that failed may have counted a fault
abbrev pub KeepsCount : {A : Type 0} → ℕ → ℕ → Result A Note → Type 0
KeepsCount before now (Err (CannotRead which)) = ⊤
KeepsCount before now _ = now ≡ before

-- what was asked for in memory came, or memory ran out
abbrev pub Makes : {A : Type 0} → Result A Note → Result A Note → Type 0
Makes wanted (Err Usage) = ⊥
Makes wanted (Err (CannotRead which)) = ⊥
Makes wanted (Err CannotWrite) = ⊥
Makes wanted (Err OutOfMemory) = ⊤
Makes wanted result = wanted ≡ result

-- the same of an output
abbrev pub RunsScript : Result (List ℕ) Note → Result (Vec ℕ Global) Note → Type 0
RunsScript wanted (Ok text) = wanted ≡ Ok text.items
RunsScript wanted (Err cause) = Makes wanted (Err cause)

abbrev pub RunsCheck : Result Listing Note → Result (Vec ℕ Global) Note → Type 0
RunsCheck wanted (Ok text) = (list : Listing) × (wanted ≡ Ok list) × IsCheckOutput list text.items
RunsCheck wanted (Err cause) = Makes wanted (Err cause)

-- what was asked for came, or memory ran out, or a file could not be read
abbrev pub Comes : {A : Type 0} → Needs → Files → ℕ → ℕ → Result A Note → Result A Note → Type 0
Comes needs files before now wanted (Err Usage) = ⊥
Comes needs files before now wanted (Err (CannotRead which)) =
    IsUnread needs files before now which × (¬ Rose before now → wanted ≡ Err (CannotRead which))
Comes needs files before now wanted (Err CannotWrite) = ⊥
Comes needs files before now wanted (Err OutOfMemory) = ⊤
Comes needs files before now wanted result = wanted ≡ result

-- with some texts, which where the files are told are those in them
pub record Finds {A : Type 0} (needs : Needs) (files : Files) (before now : ℕ)
    (wanted : Texts → Result A Note) (result : Result A Note) : Type 0 where
  pub texts : Texts
  pub found : AreIn needs files texts
  pub comes : Comes needs files before now (wanted texts) result

-- a grid is shared as the words ask: among their ranks, or among the tiles that they give
abbrev pub IsShared : StencilWords → Inputs → Sharing → Type 0
IsShared w inputs (Ranks plan) = plan ≡ rank_plan w inputs
IsShared w inputs (Tiles plan) = (tiles : TileWords) × (w.tiles ≡ Some tiles) × (plan ≡ tile_plan w inputs tiles)

-- the output that a command has, or the cause of a run without one
abbrev pub Gives : Option Command → Files → ℕ → ℕ → Result (Vec ℕ Global) Note → Type 0
Gives command files before now (Ok text) = Explains command files (λ end. end ≡ answered text.items)
Gives command files before now (Err CannotWrite) = ⊥
Gives command files before now (Err cause) = IsCause cause command files before now
