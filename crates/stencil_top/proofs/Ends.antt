-- The output of a script, and the outcomes of a command.
use Rattle.std.proofs.Common.{◌≡◌, ℕ, ◌≤◌, List, length, Option, Some, None, Result, Ok, Err, Vec, IfSome, IsSome, refl, sym, ap, ◌∙◌, subst}
use Rattle.std.specs.declared.alloc.Global.{Global}
use Rattle.part_io.specs.Sink.{AddsFront, Writes}
use Rattle.stencil_words.specs.declared.words.Source.{Source}
use Rattle.stencil_words.specs.declared.words.Source.TheVariants as source
use Rattle.stencil_top.specs.Words.{Command, Script, Check, Stencil, source_file, file_of}
use Rattle.stencil_top.specs.Outcome.{Texts, Outcome, Ends, EndsWith, IsStencilOutput, IsCheckOutput, answered, noted, texts_in, limit_of, read_of, ◌>>=◌, answers_to, list_in, script_output, inputs_in, inputs_of, made_with, planned}
use Rattle.stencil_top.specs.Run.{Files, AreIn, Explains, IsNoted}
use Rattle.stencil_top.specs.Steps.{Gives, ReadsFile, RunsScript, Finds}
use Rattle.stencil_top.specs.declared.status.Status.TheVariants.{Done}
use Rattle.stencil_top.specs.declared.note.TextName.{TextName}
use Rattle.stencil_top.specs.declared.note.TextName.TheVariants as text
use Rattle.stencil_top.specs.declared.reading.Inputs.{Inputs}
use Rattle.stencil_top.specs.declared.note.Note.{Note}
use Rattle.stencil_top.specs.declared.note.Note.TheVariants.{Usage, TooLong, BadScript, BadList, BadText, TooManyRanks, TooManyTiles, CannotRead, CannotWrite, OutOfMemory}
use Rattle.stencil_top.proofs.Texts.{not_true, texts_of, is_found, read_short, fails, made_comes}

-- the note of a cause, where what was wanted came to that cause
is_noted : {A : Type 0} (command : Option Command) (files : Files) (before now : ℕ) (wanted : Texts → Result A Note) (IsOutput : A → List ℕ → Type 0) (result : Result A Note)
    → ((t : Texts) (e : Outcome) → EndsWith (wanted t) IsOutput e → Ends command t e)
    → (f : Finds (file_of command) files before now wanted result) (cause : Note) → wanted f.texts ≡ Err cause → IsNoted cause command files
is_noted command files before now wanted IsOutput result to f cause e = record {
  texts = f.texts;
  end = noted cause;
  found = f.found;
  ends = to f.texts (noted cause) (subst (λ (r : Result _ Note). EndsWith r IsOutput (noted cause)) (sym e) refl);
  says = refl;
}

-- a run without an output
pub none_given : {A : Type 0} (command : Option Command) (files : Files) (before now : ℕ) (wanted : Texts → Result A Note) (IsOutput : A → List ℕ → Type 0)
    → ((t : Texts) (e : Outcome) → EndsWith (wanted t) IsOutput e → Ends command t e)
    → (cause : Note) → Finds (file_of command) files before now wanted (Err cause) → Gives command files before now (Err cause)
none_given command files before now wanted IsOutput to Usage f = absurd f.comes
none_given command files before now wanted IsOutput to (TooLong w) f = is_noted command files before now wanted IsOutput _ to f (TooLong w) f.comes
none_given command files before now wanted IsOutput to (BadScript fault) f = is_noted command files before now wanted IsOutput _ to f (BadScript fault) f.comes
none_given command files before now wanted IsOutput to (BadList fault) f = is_noted command files before now wanted IsOutput _ to f (BadList fault) f.comes
none_given command files before now wanted IsOutput to (BadText w fault) f = is_noted command files before now wanted IsOutput _ to f (BadText w fault) f.comes
none_given command files before now wanted IsOutput to (TooManyRanks n m) f = is_noted command files before now wanted IsOutput _ to f (TooManyRanks n m) f.comes
none_given command files before now wanted IsOutput to (TooManyTiles a b n m) f = is_noted command files before now wanted IsOutput _ to f (TooManyTiles a b n m) f.comes
none_given command files before now wanted IsOutput to (CannotRead w) f =
    (f.comes.0, λ calm. is_noted command files before now wanted IsOutput _ to f (CannotRead w) (f.comes.1 calm))
none_given command files before now wanted IsOutput to CannotWrite f = absurd f.comes
none_given command files before now wanted IsOutput to OutOfMemory f = tt

-- the text of a script
in_script : (held : List ℕ → Option (List ℕ)) (name : List ℕ) (s : Option (List ℕ)) → held name ≡ s
    → (which : TextName) → IsSome (file_of (Some (Script name)) which) → texts_of None None s which ≡ texts_in (file_of (Some (Script name))) held which
in_script held name s is text.Weights needed = absurd (not_true needed)
in_script held name s is text.Grid needed = absurd (not_true needed)
in_script held name s is text.Script needed = sym is
in_script held name s is text.Check needed = absurd (not_true needed)

are_in_script : (files : Files) (name : List ℕ) (s : Option (List ℕ)) → IfSome files (λ held. held name ≡ s)
    → AreIn (file_of (Some (Script name))) files (texts_of None None s)
are_in_script None name s is = tt
are_in_script (Some held) name s is = in_script held name s is

abbrev IsAnswer : List ℕ → List ℕ → Type 0
IsAnswer answers output = output ≡ answers

-- a script that wasn't read
pub script_fails : (files : Files) (name : List ℕ) (before now : ℕ) (cause : Note)
    → ReadsFile files text.Script name before now (Err cause) → Gives (Some (Script name)) files before now (Err cause)
script_fails files name before now cause reads = none_given {A = List ℕ} (Some (Script name)) files before now script_output IsAnswer (λ t e ends. ends) cause record {
  texts = texts_of None None reads.found;
  found = are_in_script files name reads.found reads.held;
  comes = fails (file_of (Some (Script name))) files before now text.Script name reads.found cause
      (script_output (texts_of None None reads.found)) refl reads.held
      (λ c e. ap (λ (r : Result (List ℕ) Note). r >>= (λ t. answers_to t)) e) reads.finds;
}

-- the answers to a script that was read
answers_are : (s : List ℕ) (s' : List ℕ) → length s ≤ limit_of text.Script → s' ≡ s → script_output (texts_of None None (Some s)) ≡ answers_to s'
answers_are s s' short is = ap (λ (r : Result (List ℕ) Note). r >>= (λ t. answers_to t)) (read_short text.Script s short) ∙ ap (λ (t : List ℕ). answers_to t) (sym is)

pub script_given : (files : Files) (name : List ℕ) (before now : ℕ) (s : Vec ℕ Global) (s' : List ℕ) (result : Result (Vec ℕ Global) Note)
    → ReadsFile files text.Script name before now (Ok s) → s' ≡ s.items → RunsScript (answers_to s') result
    → Gives (Some (Script name)) files before now result
script_given files name before now s s' (Ok answers) reads is runs = record {
  texts = texts_of None None (Some s.items);
  end = answered answers.items;
  found = are_in_script files name (Some s.items) (is_found files name reads.found (Some s.items) reads.finds.0 reads.held);
  ends = subst (λ (r : Result (List ℕ) Note). EndsWith r IsAnswer (answered answers.items)) (sym (answers_are s.items s' reads.finds.1 is ∙ runs))
      (answers.items, refl, refl);
  says = refl;
}
script_given files name before now s s' (Err cause) reads is runs =
    none_given {A = List ℕ} (Some (Script name)) files before now script_output IsAnswer (λ t e ends. ends) cause record {
      texts = texts_of None None (Some s.items);
      found = are_in_script files name (Some s.items) (is_found files name reads.found (Some s.items) reads.finds.0 reads.held);
      comes = made_comes (file_of (Some (Script name))) files before now (script_output (texts_of None None (Some s.items))) (answers_to s') (Err cause)
          (answers_are s.items s' reads.finds.1 is) runs;
    }

-- what a stencil begins with goes by the texts that it needs
inputs_same : (s : Source) (t t' : Texts) → ((which : TextName) → IsSome (source_file s which) → t which ≡ t' which) → inputs_of s t ≡ inputs_of s t'
inputs_same (source.Grid grid weights) t t' same =
    ap (λ (x : Option (List ℕ)). read_of text.Weights x >>= (λ w. read_of text.Grid (t text.Grid) >>= (λ g. inputs_in w g))) (same text.Weights refl)
    ∙ ap (λ (x : Option (List ℕ)). read_of text.Weights (t' text.Weights) >>= (λ w. read_of text.Grid x >>= (λ g. inputs_in w g))) (same text.Grid refl)
inputs_same (source.Make size (Some weights)) t t' same =
    ap (λ (x : Option (List ℕ)). read_of text.Weights x >>= (λ w. made_with size w)) (same text.Weights refl)
inputs_same (source.Make size None) t t' same = refl

-- the outcome goes by the texts that the command needs
pub same_ends : (command : Option Command) (t t' : Texts) (end : Outcome) → ((which : TextName) → IsSome (file_of command which) → t which ≡ t' which)
    → Ends command t end → Ends command t' end
same_ends None t t' end same ends = ends
same_ends (Some (Script name)) t t' end same ends =
    subst (λ (x : Option (List ℕ)). EndsWith (read_of text.Script x >>= (λ s. answers_to s)) IsAnswer end) (same text.Script refl) ends
same_ends (Some (Check name)) t t' end same ends =
    subst (λ (x : Option (List ℕ)). EndsWith (read_of text.Check x >>= (λ s. list_in s)) IsCheckOutput end) (same text.Check refl) ends
same_ends (Some (Stencil w)) t t' end same ends =
    subst (λ (r : Result Inputs Note). EndsWith (r >>= planned w) (IsStencilOutput w) end) (inputs_same w.source t t' same) ends

-- an output of which a front was written
pub written_in_part : {E : Type 0} (command : Option Command) (files : Files) (old new : Option (List ℕ)) (output piece : List ℕ) (result : Result (Unit {0}) E) (cause : E)
    → Explains command files (λ end. end ≡ answered output) → piece ≡ output → Writes old new piece result → result ≡ Err cause
    → Explains command files (λ end. (end.status ≡ Done) × AddsFront old new end.output)
written_in_part command files old new output piece result cause x same writes failed =
    let front : AddsFront old new piece = subst (λ (r : Result (Unit {0}) _). Writes old new piece r) failed writes in
    record {
      texts = x.texts;
      end = x.end;
      found = x.found;
      ends = x.ends;
      says = subst (λ (e : Outcome). (e.status ≡ Done) × AddsFront old new e.output) (sym x.says)
          (refl, subst (λ (p : List ℕ). AddsFront old new p) same front);
    }
