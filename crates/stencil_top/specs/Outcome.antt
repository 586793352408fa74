-- How a run ends, by its words and the texts in its files.
use Rattle.std.specs.Prelude.{◌≡◌, ℕ, nat_lt, if◌then◌else◌, ℤ, pos, List, [], ◌∷◌, length, Option, Some, None}
use Rattle.std.specs.Prelude.{option_and_then, Result, Ok, Err}
use Rattle.stencil_def.specs.Plane.{Plane}
use Rattle.stencil_def.specs.Square.{Square, square_of}
use Rattle.stencil_def.specs.Step.{fold_plane}
use Rattle.stencil_def.specs.declared.rule.Rule.{Rule}
use Rattle.cell_lanes.specs.Change.{IsStop}
use Rattle.grid_text.specs.Reading.{grid_of, weights_of}
use Rattle.grid_text.specs.Printing.{grid_text, summary_text}
use Rattle.grid_text.specs.Making.{made_grid}
use Rattle.grid_text.specs.declared.fault.TextFault.{TextFault}
use Rattle.script_text.specs.Script.{script_of}
use Rattle.script_text.specs.declared.fault.ScriptFault.{ScriptFault}
use Rattle.script_run.specs.Run.{answers_of}
use Rattle.event_check.specs.Lists.{Listing, listing_of}
use Rattle.event_check.specs.Output.{IsTold}
use Rattle.event_check.specs.declared.fault.CheckFault.{CheckFault}
use Rattle.halo_plan.specs.Plan.{Plan}
use Rattle.halo_plan.specs.Making.{needs_more}
use Rattle.grid_tiles.specs.Plan as grid_tiles
use Rattle.grid_tiles.specs.Making.{plan_answer}
use Rattle.grid_tiles.specs.declared.plan.TileFault.{TileFault}
use Rattle.grid_tiles.specs.declared.plan.TileFault.TheVariants as tile_fault
use Rattle.stencil_words.specs.declared.words.Size.{Size}
use Rattle.stencil_words.specs.declared.words.StencilWords.{StencilWords}
use Rattle.stencil_words.specs.declared.words.TileWords.{TileWords}
use Rattle.stencil_words.specs.declared.words.Source.{Source}
use Rattle.stencil_words.specs.declared.words.Source.TheVariants.{Grid, Make}
use Rattle.stencil_top.specs.Words.{Command, Script, Check, Stencil}
use Rattle.stencil_top.specs.Note.{status_of, note_text}
use Rattle.stencil_top.specs.declared.status.Status.{Status}
use Rattle.stencil_top.specs.declared.status.Status.TheVariants.{Done}
use Rattle.stencil_top.specs.declared.note.TextName.{TextName}
use Rattle.stencil_top.specs.declared.note.TextName.TheVariants as text
use Rattle.stencil_top.specs.declared.note.Note.{Note}
use Rattle.stencil_top.specs.declared.note.Note.TheVariants.{Usage, TooLong, BadScript, BadList, BadText}
use Rattle.stencil_top.specs.declared.note.Note.TheVariants.{TooManyRanks, TooManyTiles, CannotRead}
use Rattle.stencil_top.specs.declared.reading.Inputs.{Inputs}
use Rattle.stencil_top.specs.declared.stencil.Sharing.{Sharing}
use Rattle.stencil_top.specs.declared.stencil.Sharing.TheVariants.{Ranks, Tiles}

-- the text of each name, where there is one
abbrev pub Texts : Type 0
Texts = TextName → Option (List ℕ)

-- how many bytes a text has at most
abbrev pub limit_of : TextName → ℕ
limit_of text.Weights = 4096
limit_of text.Grid = 33554432
limit_of text.Script = 1048576
limit_of text.Check = 4194304

-- the second step, where the first gives a value
infixl 10 ◌>>=◌
abbrev pub ◌>>=◌ : {A B : Type 0} → Result A Note → (A → Result B Note) → Result B Note
(Ok x) >>= f = f x
(Err cause) >>= f = Err cause

-- what the reading of a file gives
abbrev pub read_of : TextName → Option (List ℕ) → Result (List ℕ) Note
read_of which None = Err (CannotRead which)
read_of which (Some text) = if nat_lt (limit_of which) (length text) then Err (TooLong which) else Ok text

-- what a text of weights or of a grid, what a script, and what a list of events reads as
abbrev pub or_bad_text : {A : Type 0} → TextName → Result A TextFault → Result A Note
or_bad_text which (Ok x) = Ok x
or_bad_text which (Err fault) = Err (BadText which fault)

abbrev pub or_bad_script : {A : Type 0} → Result A ScriptFault → Result A Note
or_bad_script (Ok x) = Ok x
or_bad_script (Err fault) = Err (BadScript fault)

abbrev pub or_bad_list : {A : Type 0} → Result A CheckFault → Result A Note
or_bad_list (Ok x) = Ok x
or_bad_list (Err fault) = Err (BadList fault)

-- the answers to the script that a text is
abbrev pub answers_to : List ℕ → Result (List ℕ) Note
answers_to text = do
  script ← or_bad_script (script_of text)
  Ok (answers_of script)

abbrev pub script_output : Texts → Result (List ℕ) Note
script_output files = do
  text ← read_of text.Script (files text.Script)
  answers_to text

-- the list of events that a text is
abbrev pub list_in : List ℕ → Result Listing Note
list_in text = or_bad_list (listing_of text)

abbrev pub list_to_check : Texts → Result Listing Note
list_to_check files = do
  text ← read_of text.Check (files text.Check)
  list_in text

abbrev pub IsCheckOutput : Listing → List ℕ → Type 0
IsCheckOutput list output = IsTold list.geometry list.events output

-- the weights where no file names others: 1, 2, 1 and 2, 4, 2 and 1, 2, 1, row by row
abbrev pub default_weights : Square
default_weights = square_of (pos 1 ∷ pos 2 ∷ pos 1 ∷ pos 2 ∷ pos 4 ∷ pos 2 ∷ pos 1 ∷ pos 2 ∷ pos 1 ∷ [])

-- the grid that the generator makes
abbrev pub made_of : Size → Plane
made_of size = made_grid size.seed size.rows size.cols

-- what a stencil begins with, by its texts: of two the weights are looked at first
abbrev pub inputs_in : List ℕ → List ℕ → Result Inputs Note
inputs_in weights grid = do
  square ← or_bad_text text.Weights (weights_of weights)
  plane ← or_bad_text text.Grid (grid_of grid)
  Ok record { grid = plane; weights = square }

abbrev pub made_with : Size → List ℕ → Result Inputs Note
made_with size weights = do
  square ← or_bad_text text.Weights (weights_of weights)
  Ok record { grid = made_of size; weights = square }

-- what a stencil begins with: both files are read before either text is looked at, the weights and then the grid
abbrev pub inputs_of : Source → Texts → Result Inputs Note
inputs_of (Grid grid weights) files = do
  weights_text ← read_of text.Weights (files text.Weights)
  grid_text ← read_of text.Grid (files text.Grid)
  inputs_in weights_text grid_text
inputs_of (Make size (Some weights)) files = do
  weights_text ← read_of text.Weights (files text.Weights)
  made_with size weights_text
inputs_of (Make size None) files = Ok record { grid = made_of size; weights = default_weights }

-- how the words' ranks share the grid, for weights that reach so far
abbrev pub rank_plan : StencilWords → Inputs → Plan
rank_plan w inputs = record {
  rows = inputs.grid.rows;
  cols = inputs.grid.cols;
  ranks = w.plan.ranks;
  send_parts = w.plan.send_parts;
  recv_parts = w.plan.recv_parts;
  grain = w.plan.grain;
  depth = w.plan.depth;
  reach = inputs.weights.reach;
  around = w.around;
}

-- how these tiles share it, and what the words say of the messages between them
abbrev pub tile_plan : StencilWords → Inputs → TileWords → grid_tiles.Plan
tile_plan w inputs tiles = record {
  rows = inputs.grid.rows;
  cols = inputs.grid.cols;
  tile_rows = tiles.rows;
  tile_cols = tiles.cols;
  shape = record {
    send_parts = w.plan.send_parts;
    recv_parts = w.plan.recv_parts;
    grain = w.plan.grain;
    depth = w.plan.depth;
    reach = inputs.weights.reach;
    around = w.around;
  };
}

-- a plan that isn't refused; no shape is refused
abbrev pub or_bad_plan : Plan → Result Plan Note
or_bad_plan p = if needs_more p.rows p.ranks p.reach then Err (TooManyRanks p.ranks p.rows) else Ok p

abbrev pub or_bad_tiles : Result grid_tiles.Plan TileFault → Result grid_tiles.Plan Note
or_bad_tiles (Ok p) = Ok p
or_bad_tiles (Err (tile_fault.TooManyTiles tile_rows tile_cols rows cols)) =
    Err (TooManyTiles tile_rows tile_cols rows cols)

-- how the grid is shared, where that isn't refused: among ranks, or among the tiles that the words ask for
abbrev pub shared_by : StencilWords → Inputs → Option TileWords → Result Sharing Note
shared_by w inputs None = do
  plan ← or_bad_plan (rank_plan w inputs)
  Ok (Ranks plan)
shared_by w inputs (Some tiles) = do
  plan ← or_bad_tiles (plan_answer (tile_plan w inputs tiles))
  Ok (Tiles plan)

abbrev pub sharing_of : StencilWords → Inputs → Result Sharing Note
sharing_of w inputs = shared_by w inputs w.tiles

-- what a stencil begins with, where its plan isn't refused; the plan is made of texts that were read
abbrev pub planned : StencilWords → Inputs → Result Inputs Note
planned w inputs = do
  sharing ← sharing_of w inputs
  Ok inputs

abbrev pub begun : StencilWords → Texts → Result Inputs Note
begun w files = do
  inputs ← inputs_of w.source files
  planned w inputs

-- the rule that the words give with these weights
pub record IsRuleOf (w : StencilWords) (weights : Square) (rule : Rule) : Type 0 where
  pub weights_are : rule.weights ≡ weights
  pub div_is : rule.div ≡ pos w.div
  pub edge_is : rule.edge ≡ w.edge
  pub around_is : rule.around ≡ w.around

-- a grid that was read is printed, and one that was made is summed up
abbrev pub printed : Source → ℕ → Plane → List ℕ
printed (Grid grid weights) steps last = grid_text last
printed (Make size weights) steps last = summary_text last steps

-- a run ends after n steps: after all of so many or, where it is to end once a step changes no cell by more than
-- `until`, at that stop
abbrev pub IsLastStep : Plane → Rule → ℕ → Option ℤ → ℕ → Type 0
IsLastStep g rule steps None n = n ≡ steps
IsLastStep g rule steps (Some until) n = IsStop g rule steps until n

-- the output of a stencil: the grid after the last step of that rule; the plan has no part in it
pub record IsStencilOutput (w : StencilWords) (inputs : Inputs) (output : List ℕ) : Type 0 where
  pub rule : Rule
  pub rule_is : IsRuleOf w inputs.weights rule
  pub last : ℕ
  pub last_is : IsLastStep inputs.grid rule w.steps w.until last
  pub output_is : output ≡ printed w.source last (fold_plane inputs.grid rule last)

-- the status of a run, what it writes to the output, and what it notes
pub record Outcome : Type 0 where
  pub status : Status
  pub output : List ℕ
  pub note : List ℕ

-- this was written, and nothing noted
abbrev pub answered : List ℕ → Outcome
answered text = record { status = Done; output = text; note = [] }

-- this was noted, and nothing written
abbrev pub noted : Note → Outcome
noted cause = record { status = status_of cause; output = []; note = note_text cause }

-- an outcome with an output of which this holds, or with the note of the cause
abbrev pub EndsWith : {A : Type 0} → Result A Note → (A → List ℕ → Type 0) → Outcome → Type 0
EndsWith (Ok x) IsOutput end = (output : List ℕ) × IsOutput x output × (end ≡ answered output)
EndsWith (Err cause) IsOutput end = end ≡ noted cause

-- the outcome of a command with these texts, where nothing fails and memory is left
abbrev pub Ends : Option Command → Texts → Outcome → Type 0
Ends None files end = end ≡ noted Usage
Ends (Some (Script name)) files end = EndsWith (script_output files) (λ answers output. output ≡ answers) end
Ends (Some (Check name)) files end = EndsWith (list_to_check files) IsCheckOutput end
Ends (Some (Stencil w)) files end = EndsWith (begun w files) (IsStencilOutput w) end

-- the texts in the files of these names
abbrev pub texts_in : Texts → (List ℕ → Option (List ℕ)) → Texts
texts_in names held which = option_and_then held (names which)
