-- A run whose files are told ends with the outcome that its command has with them, where nothing failed.
use Rattle.std.proofs.Common.{◌≡◌, ◌≢◌, ◌⊎◌, inl, inr, ℕ, List, [], Option, Some, None, Result, Ok, Err, IfSome, IsSome, refl, sym, ap, ◌∙◌, subst, arith}
use Rattle.std.proofs.lemmas.List.{append-nil}
use Rattle.part_io.specs.Causes.{Rose}
use Rattle.part_io.specs.Sink.{Adds}
use Rattle.grid_text.specs.declared.fault.TextFault.TheVariants as text_fault
use Rattle.script_text.specs.declared.fault.ScriptFault.TheVariants as script_fault
use Rattle.event_check.specs.declared.fault.CheckFault.TheVariants as check_fault
use Rattle.stencil_top.specs.Words.{Command, Script, Check, Stencil, file_of}
use Rattle.stencil_top.specs.Note.{status_of, note_text, Notes}
use Rattle.stencil_top.specs.Outcome.{Outcome, Ends, EndsWith, IsStencilOutput, IsCheckOutput, noted, texts_in, begun, list_to_check, script_output}
use Rattle.stencil_top.specs.Run.{Files, Explains, IsNoted, IsCause, EndsAsTold, NeedsNone}
use Rattle.stencil_top.specs.declared.note.Note.{Note}
use Rattle.stencil_top.specs.declared.note.Note.TheVariants.{Usage, TooLong, BadScript, BadList, BadText, TooManyRanks, TooManyTiles, CannotRead, CannotWrite, OutOfMemory}
use Rattle.stencil_top.specs.declared.status.Status.{Status}
use Rattle.stencil_top.specs.declared.status.Status.TheVariants.{Done, NoMemory}
use Rattle.stencil_top.proofs.Texts.{not_true}
use Rattle.stencil_top.proofs.Ends.{same_ends}

-- what is as it was has nothing more
pub adds_none : (old new : Option (List ℕ)) → new ≡ old → Adds old new []
adds_none None new same = same
adds_none (Some bytes) new same = same ∙ ap Some (sym (append-nil bytes))

-- the outcome with the texts in the files
pub explained : (command : Option Command) (held : List ℕ → Option (List ℕ)) (Says : Outcome → Type 0) → Explains command (Some held) Says
    → (end : Outcome) × Ends command (texts_in (file_of command) held) end × Says end
explained command held Says x = (x.end, same_ends command x.texts (texts_in (file_of command) held) x.end x.found x.ends, x.says)

-- no note ends with the output written
never_done : (cause : Note) → status_of cause ≢ Done
never_done Usage is = cc
never_done (TooLong w) is = cc
never_done (BadScript script_fault.NoMemory) is = cc
never_done (BadScript _) is = cc
never_done (BadList check_fault.NoMemory) is = cc
never_done (BadList _) is = cc
never_done (BadText w text_fault.NoMemory) is = cc
never_done (BadText w _) is = cc
never_done (TooManyRanks n m) is = cc
never_done (TooManyTiles a b n m) is = cc
never_done (CannotRead w) is = cc
never_done CannotWrite is = cc
never_done OutOfMemory is = cc

-- with the output written nothing is noted
quiet_with : {A : Type 0} (r : Result A Note) (IsOutput : A → List ℕ → Type 0) (end : Outcome) → EndsWith r IsOutput end → end.status ≡ Done → end.note ≡ []
quiet_with (Ok x) IsOutput end ends done = ap (λ (o : Outcome). o.note) ends.2
quiet_with (Err cause) IsOutput end ends done = absurd (never_done cause (ap (λ (o : Outcome). o.status) (sym ends) ∙ done))

quiet : (command : Option Command) (t : _) (end : Outcome) → Ends command t end → end.status ≡ Done → end.note ≡ []
quiet None t end ends done = absurd (never_done Usage (ap (λ (o : Outcome). o.status) (sym ends) ∙ done))
quiet (Some (Script name)) t end ends done = quiet_with (script_output t) _ end ends done
quiet (Some (Check name)) t end ends done = quiet_with (list_to_check t) IsCheckOutput end ends done
quiet (Some (Stencil w)) t end ends done = quiet_with (begun w t) (IsStencilOutput w) end ends done

-- an output that was written
pub told_output : (files : Files) (command : Option Command) (ReadFailed WriteFailed : Type 0) (out out' line : Option (List ℕ)) (count : ℕ)
    → Explains command files (λ end. (end.status ≡ Done) × Adds out out' end.output)
    → IfSome files (λ held. ¬ ReadFailed → ¬ WriteFailed → (Done ≡ NoMemory) ⊎ EndsAsTold command held Done out out' line line count count)
told_output None command R W out out' line count x = tt
told_output (Some held) command R W out out' line count x = λ no_read no_write.
    let e = explained command held (λ end. (end.status ≡ Done) × Adds out out' end.output) x in
    inr record {
      end = e.0;
      ends = e.1;
      is = record {
        status_is = sym e.2.0;
        output = e.2.1;
        noted = λ calm. subst (λ (n : List ℕ). Adds line line n) (sym (quiet command (texts_in (file_of command) held) e.0 e.1 e.2.0)) (adds_none line line refl);
      };
    }

-- the outcome that is noted
noted_as_told : (command : Option Command) (held : List ℕ → Option (List ℕ)) (cause : Note) (status : Status) (out out' line line' : Option (List ℕ)) (before now : ℕ)
    → status ≡ status_of cause → out' ≡ out → Notes line line' before now (note_text cause)
    → IsNoted cause command (Some held) → EndsAsTold command held status out out' line line' before now
noted_as_told command held cause status out out' line line' before now status_is same notes x =
    let e = explained command held (λ end. end ≡ noted cause) x in
    record {
      end = e.0;
      ends = e.1;
      is = record {
        status_is = status_is ∙ ap (λ (o : Outcome). o.status) (sym e.2);
        output = subst (λ (o : Outcome). Adds out out' o.output) (sym e.2) (adds_none out out' same);
        noted = λ calm. subst (λ (o : Outcome). Adds line line' o.note) (sym e.2) (notes.whole calm);
      };
    }

-- words that ask for nothing
no_command : (command : Option Command) (held : List ℕ → Option (List ℕ)) → command ≡ None → IsNoted Usage command (Some held)
no_command command held is =
    subst (λ (c : Option Command). IsNoted Usage c (Some held)) (sym is) record {
      texts = λ which. None;
      end = noted Usage;
      found = λ which needed. absurd (not_true needed);
      ends = refl;
      says = refl;
    }

-- a cause that was noted
told_cause : (command : Option Command) (held : List ℕ → Option (List ℕ)) (WriteFailed : Type 0) (cause : Note) (status : Status)
    (out out' line line' : Option (List ℕ)) (before now before' now' : ℕ)
    → status ≡ status_of cause → IsCause cause command (Some held) before' now' → (cause ≡ CannotWrite → WriteFailed)
    → (cause ≢ CannotWrite → out' ≡ out) → Notes line line' before now (note_text cause) → ¬ Rose before' now' → ¬ WriteFailed
    → (status ≡ NoMemory) ⊎ EndsAsTold command held status out out' line line' before now
told_cause command held W Usage status out out' line line' b n b' n' status_is is write nothing notes no_read no_write =
    inr (noted_as_told command held Usage status out out' line line' b n status_is (nothing (λ w. no_write (write w))) notes (no_command command held is))
told_cause command held W (TooLong w) status out out' line line' b n b' n' status_is is write nothing notes no_read no_write =
    inr (noted_as_told command held (TooLong w) status out out' line line' b n status_is (nothing (λ w. no_write (write w))) notes is)
told_cause command held W (BadScript fault) status out out' line line' b n b' n' status_is is write nothing notes no_read no_write =
    inr (noted_as_told command held (BadScript fault) status out out' line line' b n status_is (nothing (λ w. no_write (write w))) notes is)
told_cause command held W (BadList fault) status out out' line line' b n b' n' status_is is write nothing notes no_read no_write =
    inr (noted_as_told command held (BadList fault) status out out' line line' b n status_is (nothing (λ w. no_write (write w))) notes is)
told_cause command held W (BadText w fault) status out out' line line' b n b' n' status_is is write nothing notes no_read no_write =
    inr (noted_as_told command held (BadText w fault) status out out' line line' b n status_is (nothing (λ w. no_write (write w))) notes is)
told_cause command held W (TooManyRanks n m) status out out' line line' b n' b' n'' status_is is write nothing notes no_read no_write =
    inr (noted_as_told command held (TooManyRanks n m) status out out' line line' b n' status_is (nothing (λ w. no_write (write w))) notes is)
told_cause command held W (TooManyTiles a c n m) status out out' line line' b n' b' n'' status_is is write nothing notes no_read no_write =
    inr (noted_as_told command held (TooManyTiles a c n m) status out out' line line' b n' status_is (nothing (λ w. no_write (write w))) notes is)
told_cause command held W (CannotRead w) status out out' line line' b n b' n' status_is is write nothing notes no_read no_write =
    inr (noted_as_told command held (CannotRead w) status out out' line line' b n status_is (nothing (λ w. no_write (write w))) notes (is.1 no_read))
told_cause command held W CannotWrite status out out' line line' b n b' n' status_is is write nothing notes no_read no_write = absurd (no_write (write refl))
told_cause command held W OutOfMemory status out out' line line' b n b' n' status_is is write nothing notes no_read no_write = inl status_is

pub told : (files : Files) (command : Option Command) (WriteFailed : Type 0) (cause : Note) (status : Status)
    (out out' line line' : Option (List ℕ)) (before now before' now' : ℕ)
    → status ≡ status_of cause → IsCause cause command files before' now' → (cause ≡ CannotWrite → WriteFailed)
    → (cause ≢ CannotWrite → out' ≡ out) → Notes line line' before now (note_text cause)
    → IfSome files (λ held. ¬ Rose before' now' → ¬ WriteFailed
    → (status ≡ NoMemory) ⊎ EndsAsTold command held status out out' line line' before now)
told None command W cause status out out' line line' b n b' n' status_is is write nothing notes = tt
told (Some held) command W cause status out out' line line' b n b' n' status_is is write nothing notes = λ no_read no_write.
    told_cause command held W cause status out out' line line' b n b' n' status_is is write nothing notes no_read no_write

abbrev no_file : List ℕ → Option (List ℕ)
no_file name = None

unneeded : (needs : Option (List ℕ)) → needs ≡ None → IsSome needs → ⊥
unneeded needs none some = not_true (subst IsSome none some)

-- a command that needs no file has its outcome over any shelf
explained_alone : (command : Option Command) (files : Files) (Says : Outcome → Type 0) → NeedsNone (file_of command)
    → Explains command files Says → Explains command (Some no_file) Says
explained_alone command files Says none x = record {
  texts = x.texts;
  end = x.end;
  found = λ which needed. absurd (unneeded (file_of command which) (none which) needed);
  ends = x.ends;
  says = x.says;
}

-- and no cause but those that no shelf counts
cause_alone : (command : Option Command) (files : Files) (cause : Note) (before now : ℕ) → NeedsNone (file_of command)
    → IsCause cause command files before now → IsCause cause command (Some no_file) 0 0
cause_alone command files Usage before now none is = is
cause_alone command files (TooLong w) before now none is = explained_alone command files (λ end. end ≡ noted (TooLong w)) none is
cause_alone command files (BadScript fault) before now none is = explained_alone command files (λ end. end ≡ noted (BadScript fault)) none is
cause_alone command files (BadList fault) before now none is = explained_alone command files (λ end. end ≡ noted (BadList fault)) none is
cause_alone command files (BadText w fault) before now none is = explained_alone command files (λ end. end ≡ noted (BadText w fault)) none is
cause_alone command files (TooManyRanks n m) before now none is = explained_alone command files (λ end. end ≡ noted (TooManyRanks n m)) none is
cause_alone command files (TooManyTiles a b n m) before now none is = explained_alone command files (λ end. end ≡ noted (TooManyTiles a b n m)) none is
cause_alone command files (CannotRead w) before now none is =
    let needed : file_of command w ≡ Some is.0.file = is.0.needed in
    let unneeded : file_of command w ≡ None = none w in
    absurd (cc)
cause_alone command files CannotWrite before now none is = explained_alone command files (λ end. end.status ≡ Done) none is
cause_alone command files OutOfMemory before now none is = tt

pub alone_output : (files : Files) (command : Option Command) (WriteFailed : Type 0) (out out' line : Option (List ℕ)) (count : ℕ)
    → Explains command files (λ end. (end.status ≡ Done) × Adds out out' end.output) → NeedsNone (file_of command) → ¬ WriteFailed
    → (Done ≡ NoMemory) ⊎ EndsAsTold command no_file Done out out' line line count count
alone_output files command W out out' line count x none no_write =
    told_output (Some no_file) command ⊥ W out out' line count
    (explained_alone command files (λ end. (end.status ≡ Done) × Adds out out' end.output) none x) (λ never. never) no_write

pub alone : (files : Files) (command : Option Command) (WriteFailed : Type 0) (cause : Note) (status : Status)
    (out out' line line' : Option (List ℕ)) (before now before' now' : ℕ)
    → status ≡ status_of cause → IsCause cause command files before' now' → (cause ≡ CannotWrite → WriteFailed)
    → (cause ≢ CannotWrite → out' ≡ out) → Notes line line' before now (note_text cause) → NeedsNone (file_of command) → ¬ WriteFailed
    → (status ≡ NoMemory) ⊎ EndsAsTold command no_file status out out' line line' before now
alone files command W cause status out out' line line' b n b' n' status_is is write nothing notes none no_write =
    told_cause command no_file W cause status out out' line line' b n 0 0 status_is (cause_alone command files cause b' n' none is)
    write nothing notes (λ rose. absurd (omega arith)) no_write
