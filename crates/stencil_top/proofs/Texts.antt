-- What the reading of one file says of the whole.
use Rattle.std.proofs.Common.{◌≡◌, ◌⊎◌, inl, inr, ℕ, suc, ◌<◌, ◌≤◌, List, length, Option, Some, None, Result, Ok, Err, Vec, IfSome, IsSome, IsSomeAnd, replicate, true, false, arith, refl, sym, ap, ◌∙◌, subst}
use Rattle.std.specs.declared.alloc.Global.{Global}
use Rattle.std.proofs.lemmas.Bool.{lt-ltb, le-ltb}
use Rattle.std.proofs.lemmas.List.{length-replicate}
use Rattle.part_io.specs.Causes.{Rose}
use Rattle.part_io.specs.Shelf.{Reads}
use Rattle.part_io.specs.declared.answers.ReadAnswer.TheVariants as answer
use Rattle.stencil_top.specs.Outcome.{Texts, limit_of, read_of}
use Rattle.stencil_top.specs.Run.{Files, Needs, IsUnread}
use Rattle.stencil_top.specs.Steps.{FindsText, ReadsFile, Makes, Comes}
use Rattle.stencil_top.specs.declared.note.TextName.{TextName}
use Rattle.stencil_top.specs.declared.note.TextName.TheVariants as text
use Rattle.stencil_top.specs.declared.note.Note.{Note}
use Rattle.stencil_top.specs.declared.note.Note.TheVariants.{Usage, TooLong, BadScript, BadList, BadText, TooManyRanks, TooManyTiles, CannotRead, CannotWrite, OutOfMemory}

-- a test doesn't fail and hold
pub not_true : false ≡ true → ⊥
not_true is = cc

-- three texts, and the text of a list of events alone
abbrev pub texts_of : Option (List ℕ) → Option (List ℕ) → Option (List ℕ) → Texts
texts_of weights grid script text.Weights = weights
texts_of weights grid script text.Grid = grid
texts_of weights grid script text.Script = script
texts_of weights grid script text.Check = None

abbrev pub list_text : Option (List ℕ) → Texts
list_text list text.Check = list
list_text list _ = None

-- what the files hold, where they are told
abbrev pub told_text : Files → List ℕ → Option (List ℕ)
told_text None name = None
told_text (Some held) name = held name

pub told_is : (files : Files) (name : List ℕ) → IfSome files (λ held. held name ≡ told_text files name)
told_is None name = tt
told_is (Some held) name = refl

-- a text that is longer than n
longer_length : (n : ℕ) → n < length (replicate {A = ℕ} (suc n) 0)
longer_length n = rw (length-replicate {A = ℕ} (suc n) 0) (omega arith)

pub longer : (n : ℕ) → (t : List ℕ) × (n < length t)
longer n = (replicate (suc n) 0, longer_length n)

-- where a text was read, it was found
pub is_found : (files : Files) (name : List ℕ) (found other : Option (List ℕ)) → found ≡ other → IfSome files (λ held. held name ≡ found)
    → IfSome files (λ held. held name ≡ other)
is_found files name found other e h = subst (λ (f : Option (List ℕ)). IfSome files (λ held. held name ≡ f)) e h

-- a text that isn't too long
pub read_short : (which : TextName) (bytes : List ℕ) → length bytes ≤ limit_of which → read_of which (Some bytes) ≡ Ok bytes
read_short which bytes short = rw (le-ltb (limit_of which) (length bytes) short) refl

-- a text that is too long
pub read_long : (which : TextName) (found : Option (List ℕ)) → IsSomeAnd found (λ bytes. limit_of which < length bytes)
    → read_of which found ≡ Err (TooLong which)
read_long which None long = absurd long
read_long which (Some bytes) long = rw (lt-ltb (limit_of which) (length bytes) long) refl

-- there is no such file
pub is_lacking : (files : Files) (name : List ℕ) (found : Option (List ℕ)) → IsSome files → IfSome files (λ held. held name ≡ found) → found ≡ None
    → IsSomeAnd files (λ held. held name ≡ None)
is_lacking None name found told held lacks = absurd (not_true told)
is_lacking (Some files) name found told held lacks = held ∙ lacks

-- the cause of a file that wasn't read
pub is_unread : (needs : Needs) (files : Files) (before now : ℕ) (which w : TextName) (name : List ℕ) (found : Option (List ℕ))
    → needs which ≡ Some name → IfSome files (λ held. held name ≡ found)
    → w ≡ which → Rose before now ⊎ (IsSome files × (found ≡ None)) → IsUnread needs files before now w
is_unread needs files before now which w name found needed held is cause = record {
  file = name;
  needed = ap needs is ∙ needed;
  cause = elim cause [
    | inl rose ↦ inl rose
    | inr lacks ↦ inr (is_lacking files name found lacks.0 held lacks.1)
  ];
}

-- the first reading that failed
unread : {A : Type 0} (before now : ℕ) (which w : TextName) (files : Files) (found : Option (List ℕ)) (wanted : Result A Note)
    → ((cause : Note) → read_of which found ≡ Err cause → wanted ≡ Err cause)
    → w ≡ which → Rose before now ⊎ (IsSome files × (found ≡ None)) → ¬ Rose before now → wanted ≡ Err (CannotRead w)
unread before now which w files found wanted first is cause calm = elim cause [
  | inl rose ↦ absurd (calm rose)
  | inr lacks ↦ first (CannotRead w) (ap (read_of which) lacks.1 ∙ ap (λ (x : TextName). Err (CannotRead x)) (sym is))
]

-- what a reading that failed says, where all before it went well
pub fails : {A : Type 0} (needs : Needs) (files : Files) (before now : ℕ) (which : TextName) (name : List ℕ) (found : Option (List ℕ)) (cause : Note) (wanted : Result A Note)
    → needs which ≡ Some name → IfSome files (λ held. held name ≡ found)
    → ((c : Note) → read_of which found ≡ Err c → wanted ≡ Err c)
    → FindsText which before now files found (Err cause) → Comes needs files before now wanted (Err cause)
fails needs files before now which name found Usage wanted needed held first finds = absurd finds
fails needs files before now which name found (TooLong w) wanted needed held first finds =
    first (TooLong w) (read_long which found finds.1 ∙ ap (λ (x : TextName). Err (TooLong x)) (sym finds.0))
fails needs files before now which name found (BadScript fault) wanted needed held first finds = absurd finds
fails needs files before now which name found (BadList fault) wanted needed held first finds = absurd finds
fails needs files before now which name found (BadText w fault) wanted needed held first finds = absurd finds
fails needs files before now which name found (TooManyRanks n m) wanted needed held first finds = absurd finds
fails needs files before now which name found (TooManyTiles a b n m) wanted needed held first finds = absurd finds
fails needs files before now which name found (CannotRead w) wanted needed held first finds =
    (is_unread needs files before now which w name found needed held finds.0 finds.1, unread before now which w files found wanted first finds.0 finds.1)
fails needs files before now which name found CannotWrite wanted needed held first finds = absurd finds
fails needs files before now which name found OutOfMemory wanted needed held first finds = tt

-- what was made of texts that were read
pub made_comes : {A : Type 0} (needs : Needs) (files : Files) (before now : ℕ) (wanted made : Result A Note) (result : Result A Note)
    → wanted ≡ made → Makes made result → Comes needs files before now wanted result
made_comes needs files before now wanted made (Ok x) e makes = e ∙ makes
made_comes needs files before now wanted made (Err Usage) e makes = absurd makes
made_comes needs files before now wanted made (Err (TooLong w)) e makes = e ∙ makes
made_comes needs files before now wanted made (Err (BadScript fault)) e makes = e ∙ makes
made_comes needs files before now wanted made (Err (BadList fault)) e makes = e ∙ makes
made_comes needs files before now wanted made (Err (BadText w fault)) e makes = e ∙ makes
made_comes needs files before now wanted made (Err (TooManyRanks n m)) e makes = e ∙ makes
made_comes needs files before now wanted made (Err (TooManyTiles a b n m)) e makes = e ∙ makes
made_comes needs files before now wanted made (Err (CannotRead w)) e makes = absurd makes
made_comes needs files before now wanted made (Err CannotWrite) e makes = absurd makes
made_comes needs files before now wanted made (Err OutOfMemory) e makes = tt

-- a reading behind others, by the files, the name and the count at the beginning
pub moved : (files files' : Files) (which : TextName) (name name' : List ℕ) (before before' now : ℕ) (result : Result (Vec ℕ Global) Note)
    → files' ≡ files → name' ≡ name → before' ≡ before
    → ReadsFile files' which name' before' now result → ReadsFile files which name before now result
moved files files' which name name' before before' now result ef en eb reads =
    subst (λ (f : Files). ReadsFile f which name before now result) ef
    (subst (λ (n : List ℕ). ReadsFile files' which n before now result) en
    (subst (λ (b : ℕ). ReadsFile files' which name' b now result) eb reads))

-- a file that is too long
pub long_file : (files : Files) (which : TextName) (name : List ℕ) (before now limit told : ℕ) → limit ≡ limit_of which
    → Reads files name limit (Err (answer.TooLong told)) → ReadsFile files which name before now (Err (TooLong which))
long_file None which name before now limit told is reads = record {
  found = Some (longer (limit_of which)).0;
  held = tt;
  finds = (refl, (longer (limit_of which)).1);
}
long_file (Some files) which name before now limit told is reads = record {
  found = files name;
  held = refl;
  finds = (refl, subst (λ (n : ℕ). IsSomeAnd (files name) (λ bytes. n < length bytes)) is reads.1);
}

-- a file that isn't there
pub no_file : (files : Files) (which : TextName) (name : List ℕ) (before now limit : ℕ)
    → Reads files name limit (Err answer.Missing) → ReadsFile files which name before now (Err (CannotRead which))
no_file None which name before now limit reads = absurd reads
no_file (Some files) which name before now limit reads = record {
  found = files name;
  held = refl;
  finds = (refl, inr (refl, reads));
}

-- no memory
pub no_memory : (files : Files) (which : TextName) (name : List ℕ) (before now : ℕ) → ReadsFile files which name before now (Err OutOfMemory)
no_memory files which name before now = record { found = told_text files name; held = told_is files name; finds = tt }

-- a reading that failed
pub failed : (files : Files) (which : TextName) (name : List ℕ) (before now : ℕ) → Rose before now → ReadsFile files which name before now (Err (CannotRead which))
failed files which name before now rose = record { found = told_text files name; held = told_is files name; finds = (refl, inl rose) }
