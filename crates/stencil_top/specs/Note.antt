-- What a run notes about the way it ends.
use Rattle.std.specs.Prelude.{ℕ, codes, List, [], ◌∷◌, ◌++◌, Option}
use Rattle.std.specs.Fmt.{decimal}
use Rattle.part_io.specs.Causes.{Rose}
use Rattle.part_io.specs.Sink.{Adds, AddsFront}
use Rattle.grid_text.specs.declared.fault.TextFault.{TextFault}
use Rattle.grid_text.specs.declared.fault.TextFault.TheVariants as text_fault
use Rattle.script_text.specs.declared.fault.ScriptFault.{ScriptFault}
use Rattle.script_text.specs.declared.fault.ScriptFault.TheVariants as script_fault
use Rattle.event_check.specs.declared.fault.CheckFault.{CheckFault}
use Rattle.event_check.specs.declared.fault.CheckFault.TheVariants as check_fault
use Rattle.stencil_top.specs.declared.status.Status.{Status}
use Rattle.stencil_top.specs.declared.status.Status.TheVariants as status
use Rattle.stencil_top.specs.declared.note.TextName.{TextName}
use Rattle.stencil_top.specs.declared.note.TextName.TheVariants as text
use Rattle.stencil_top.specs.declared.note.Note.{Note}
use Rattle.stencil_top.specs.declared.note.Note.TheVariants.{Usage, TooLong, BadScript, BadList, BadText}
use Rattle.stencil_top.specs.declared.note.Note.TheVariants.{TooManyRanks, TooManyTiles, CannotRead, CannotWrite}
use Rattle.stencil_top.specs.declared.note.Note.TheVariants.{OutOfMemory}

-- the status of a run that ends for this cause
abbrev pub status_of : Note → Status
status_of Usage = status.Usage
status_of (TooLong _) = status.Refused
status_of (BadScript script_fault.NoMemory) = status.NoMemory
status_of (BadScript _) = status.Refused
status_of (BadList check_fault.NoMemory) = status.NoMemory
status_of (BadList _) = status.Refused
status_of (BadText _ text_fault.NoMemory) = status.NoMemory
status_of (BadText _ _) = status.Refused
status_of (TooManyRanks _ _) = status.Refused
status_of (TooManyTiles _ _ _ _) = status.Refused
status_of (CannotRead _) = status.ReadFault
status_of CannotWrite = status.WriteFault
status_of OutOfMemory = status.NoMemory

-- how a text is called
abbrev pub name_of : TextName → List ℕ
name_of text.Weights = codes "weights"
name_of text.Grid = codes "grid"
name_of text.Script = codes "script"
name_of text.Check = codes "check"

abbrev pub out_of_memory : List ℕ
out_of_memory = codes "partstencil: out of memory"

-- where a fault of a text is, and which one it is
abbrev pub at_row : ℕ → List ℕ → List ℕ
at_row row words = codes " row " ++ decimal row ++ words

abbrev pub at_column : ℕ → ℕ → List ℕ → List ℕ
at_column row col words = codes " row " ++ decimal row ++ codes " column " ++ decimal col ++ words

abbrev pub text_message : TextName → TextFault → List ℕ
text_message which text_fault.Empty = codes "partstencil: " ++ name_of which ++ codes ": empty"
text_message which (text_fault.TooLarge row) =
    codes "partstencil: " ++ name_of which ++ at_row row (codes ": too large")
text_message which (text_fault.Ragged row) = codes "partstencil: " ++ name_of which ++ at_row row (codes ": ragged")
text_message which (text_fault.BadWeights row) =
    codes "partstencil: " ++ name_of which ++ at_row row (codes ": bad shape")
text_message which (text_fault.BadNumber row col) =
    codes "partstencil: " ++ name_of which ++ at_column row col (codes ": bad number")
text_message which (text_fault.OutOfRange row col) =
    codes "partstencil: " ++ name_of which ++ at_column row col (codes ": out of range")
text_message which text_fault.NoMemory = out_of_memory

abbrev pub at_line : TextName → ℕ → List ℕ → List ℕ
at_line which line words = codes "partstencil: " ++ name_of which ++ codes " line " ++ decimal line ++ words

abbrev pub script_message : ScriptFault → List ℕ
script_message (script_fault.NoWorld line) = at_line text.Script line (codes ": no world")
script_message (script_fault.BadWorld line) = at_line text.Script line (codes ": bad world")
script_message (script_fault.AfterEnd line) = at_line text.Script line (codes ": after end")
script_message (script_fault.BadLine line) = at_line text.Script line (codes ": bad line")
script_message script_fault.NoEnd = codes "partstencil: script: no end"
script_message script_fault.NoMemory = out_of_memory

abbrev pub check_message : CheckFault → List ℕ
check_message check_fault.NoPair = codes "partstencil: check: no pair"
check_message (check_fault.BadPair line) = at_line text.Check line (codes ": bad pair")
check_message (check_fault.TooMany line) = at_line text.Check line (codes ": too many")
check_message (check_fault.BadEvent line) = at_line text.Check line (codes ": bad event")
check_message check_fault.NoMemory = out_of_memory

abbrev pub plan_message : ℕ → ℕ → List ℕ
plan_message ranks rows =
    codes "partstencil: plan: " ++ decimal ranks ++ codes " ranks for " ++ decimal rows ++ codes " rows"

abbrev pub tiles_message : ℕ → ℕ → ℕ → ℕ → List ℕ
tiles_message tile_rows tile_cols rows cols =
    codes "partstencil: plan: tiles " ++ decimal tile_rows ++ codes "," ++ decimal tile_cols ++ codes " for " ++
    decimal rows ++ codes " rows and " ++ decimal cols ++ codes " columns"

-- the words of a note
unfoldable pub message_of : Note → List ℕ
message_of Usage = codes "usage: partstencil stencil OPTIONS | partstencil script FILE"
message_of (TooLong which) = codes "partstencil: " ++ name_of which ++ codes ": too long"
message_of (BadScript fault) = script_message fault
message_of (BadList fault) = check_message fault
message_of (BadText which fault) = text_message which fault
message_of (TooManyRanks ranks rows) = plan_message ranks rows
message_of (TooManyTiles tile_rows tile_cols rows cols) = tiles_message tile_rows tile_cols rows cols
message_of (CannotRead which) = codes "partstencil: cannot read " ++ name_of which
message_of CannotWrite = codes "partstencil: cannot write"
message_of OutOfMemory = out_of_memory

-- the line of a note, with the LF at its end
abbrev pub note_text : Note → List ℕ
note_text note = message_of note ++ 10 ∷ []

-- a line was noted, or where the sink has counted a fault some front of it
pub record Notes (old new : Option (List ℕ)) (before now : ℕ) (line : List ℕ) : Type 0 where
  pub front : AddsFront old new line
  pub whole : ¬ Rose before now → Adds old new line
