-- The output of a list of events, by the reading of its file.
use Rattle.std.proofs.Common.{◌≡◌, ℕ, ◌≤◌, List, length, Option, Some, None, Result, Ok, Err, Vec, IfSome, IsSome, refl}
use Rattle.std.proofs.Common.{sym, ap, ◌∙◌, subst}
use Rattle.std.specs.declared.alloc.Global.{Global}
use Rattle.event_check.specs.Lists.{Listing}
use Rattle.stencil_top.specs.Words.{Check, file_of}
use Rattle.stencil_top.specs.Outcome.{EndsWith, IsCheckOutput, answered, texts_in, limit_of, ◌>>=◌, list_in}
use Rattle.stencil_top.specs.Outcome.{list_to_check}
use Rattle.stencil_top.specs.Run.{Files, AreIn}
use Rattle.stencil_top.specs.Steps.{Gives, ReadsFile, RunsCheck}
use Rattle.stencil_top.specs.declared.note.TextName.{TextName}
use Rattle.stencil_top.specs.declared.note.TextName.TheVariants as text
use Rattle.stencil_top.specs.declared.note.Note.{Note}
use Rattle.stencil_top.proofs.Texts.{not_true, list_text, is_found, read_short, fails, made_comes}
use Rattle.stencil_top.proofs.Ends.{none_given}

-- the text of the list in a file
in_list : (held : List ℕ → Option (List ℕ)) (name : List ℕ) (s : Option (List ℕ)) → held name ≡ s → (which : TextName)
    → IsSome (file_of (Some (Check name)) which) → list_text s which ≡ texts_in (file_of (Some (Check name))) held which
in_list held name s is text.Weights needed = absurd (not_true needed)
in_list held name s is text.Grid needed = absurd (not_true needed)
in_list held name s is text.Script needed = absurd (not_true needed)
in_list held name s is text.Check needed = sym is

are_in_list : (files : Files) (name : List ℕ) (s : Option (List ℕ)) → IfSome files (λ held. held name ≡ s)
    → AreIn (file_of (Some (Check name))) files (list_text s)
are_in_list None name s is = tt
are_in_list (Some held) name s is = in_list held name s is

-- a list that wasn't read
pub check_fails : (files : Files) (name : List ℕ) (before now : ℕ) (cause : Note)
    → ReadsFile files text.Check name before now (Err cause) → Gives (Some (Check name)) files before now (Err cause)
check_fails files name before now cause reads =
    none_given {A = Listing} (Some (Check name)) files before now list_to_check IsCheckOutput (λ t e ends. ends) cause record {
      texts = list_text reads.found;
      found = are_in_list files name reads.found reads.held;
      comes = fails (file_of (Some (Check name))) files before now text.Check name reads.found cause
          (list_to_check (list_text reads.found)) refl reads.held
          (λ c e. ap (λ (r : Result (List ℕ) Note). r >>= (λ t. list_in t)) e) reads.finds;
    }

-- what a list that was read says
list_is : (s s' : List ℕ) → length s ≤ limit_of text.Check → s' ≡ s → list_to_check (list_text (Some s)) ≡ list_in s'
list_is s s' short is =
    ap (λ (r : Result (List ℕ) Note). r >>= (λ t. list_in t)) (read_short text.Check s short)
    ∙ ap (λ (t : List ℕ). list_in t) (sym is)

pub check_given : (files : Files) (name : List ℕ) (before now : ℕ) (s : Vec ℕ Global) (s' : List ℕ)
    (result : Result (Vec ℕ Global) Note) → ReadsFile files text.Check name before now (Ok s) → s' ≡ s.items
    → RunsCheck (list_in s') result → Gives (Some (Check name)) files before now result
check_given files name before now s s' (Ok output) reads is runs = record {
  texts = list_text (Some s.items);
  end = answered output.items;
  found = are_in_list files name (Some s.items)
      (is_found files name reads.found (Some s.items) reads.finds.0 reads.held);
  ends = subst (λ (r : Result Listing Note). EndsWith r IsCheckOutput (answered output.items))
      (sym (list_is s.items s' reads.finds.1 is ∙ runs.1)) (output.items, runs.2, refl);
  says = refl;
}
check_given files name before now s s' (Err cause) reads is runs =
    none_given {A = Listing} (Some (Check name)) files before now list_to_check IsCheckOutput (λ t e ends. ends) cause record {
      texts = list_text (Some s.items);
      found = are_in_list files name (Some s.items)
          (is_found files name reads.found (Some s.items) reads.finds.0 reads.held);
      comes = made_comes (file_of (Some (Check name))) files before now (list_to_check (list_text (Some s.items)))
          (list_in s') (Err cause) (list_is s.items s' reads.finds.1 is) runs;
    }
