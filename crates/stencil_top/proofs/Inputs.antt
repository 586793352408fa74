-- What a stencil begins with, by the reading of its files.
use Rattle.std.proofs.Common.{◌≡◌, ℕ, ◌≤◌, List, length, Option, Some, None, Result, Ok, Err, Vec, IfSome, IsSome, refl, sym, ap, ◌∙◌, subst}
use Rattle.std.specs.declared.alloc.Global.{Global}
use Rattle.stencil_words.specs.declared.words.Size.{Size}
use Rattle.stencil_words.specs.declared.words.Source.{Source}
use Rattle.stencil_words.specs.declared.words.Source.TheVariants as source
use Rattle.stencil_top.specs.Words.{source_file}
use Rattle.stencil_top.specs.Outcome.{texts_in, limit_of, read_of, ◌>>=◌, inputs_in, inputs_of, made_with}
use Rattle.stencil_top.specs.Run.{Files, AreIn}
use Rattle.stencil_top.specs.Steps.{ReadsFile, Makes, Finds}
use Rattle.stencil_top.specs.declared.note.TextName.{TextName}
use Rattle.stencil_top.specs.declared.note.TextName.TheVariants as text
use Rattle.stencil_top.specs.declared.note.Note.{Note}
use Rattle.stencil_top.specs.declared.reading.Inputs.{Inputs}
use Rattle.stencil_top.proofs.Texts.{not_true, texts_of, told_text, told_is, is_found, read_short, fails, made_comes}

-- the texts of a grid and of weights in files
in_both : (held : List ℕ → Option (List ℕ)) (grid weights : List ℕ) (w g s : Option (List ℕ)) → held weights ≡ w → held grid ≡ g
    → (which : TextName) → IsSome (source_file (source.Grid grid weights) which) → texts_of w g s which ≡ texts_in (source_file (source.Grid grid weights)) held which
in_both held grid weights w g s is_w is_g text.Weights needed = sym is_w
in_both held grid weights w g s is_w is_g text.Grid needed = sym is_g
in_both held grid weights w g s is_w is_g text.Script needed = absurd (not_true needed)
in_both held grid weights w g s is_w is_g text.Check needed = absurd (not_true needed)

are_in_both : (files : Files) (grid weights : List ℕ) (w g s : Option (List ℕ)) → IfSome files (λ held. held weights ≡ w) → IfSome files (λ held. held grid ≡ g)
    → AreIn (source_file (source.Grid grid weights)) files (texts_of w g s)
are_in_both None grid weights w g s is_w is_g = tt
are_in_both (Some held) grid weights w g s is_w is_g = in_both held grid weights w g s is_w is_g

-- the text of weights alone
in_one : (held : List ℕ → Option (List ℕ)) (size : Size) (weights : List ℕ) (w g s : Option (List ℕ)) → held weights ≡ w
    → (which : TextName) → IsSome (source_file (source.Make size (Some weights)) which) → texts_of w g s which ≡ texts_in (source_file (source.Make size (Some weights))) held which
in_one held size weights w g s is_w text.Weights needed = sym is_w
in_one held size weights w g s is_w text.Grid needed = absurd (not_true needed)
in_one held size weights w g s is_w text.Script needed = absurd (not_true needed)
in_one held size weights w g s is_w text.Check needed = absurd (not_true needed)

are_in_one : (files : Files) (size : Size) (weights : List ℕ) (w g s : Option (List ℕ)) → IfSome files (λ held. held weights ≡ w)
    → AreIn (source_file (source.Make size (Some weights))) files (texts_of w g s)
are_in_one None size weights w g s is_w = tt
are_in_one (Some held) size weights w g s is_w = in_one held size weights w g s is_w

-- no file is needed
pub none_read : (files : Files) (size : Size) (before now : ℕ) (result : Result Inputs Note)
    → Makes (inputs_of (source.Make size None) (λ which. None)) result
    → Finds (source_file (source.Make size None)) files before now (inputs_of (source.Make size None)) result
none_read files size before now result makes = record {
  texts = λ which. None;
  found = are_none files size;
  comes = made_comes (source_file (source.Make size None)) files before now _ _ result refl makes;
}
  where
    in_none : (held : List ℕ → Option (List ℕ)) (size : Size) (which : TextName) → IsSome (source_file (source.Make size None) which)
        → None ≡ texts_in (source_file (source.Make size None)) held which
    in_none held size text.Weights needed = absurd (not_true needed)
    in_none held size text.Grid needed = absurd (not_true needed)
    in_none held size text.Script needed = absurd (not_true needed)
    in_none held size text.Check needed = absurd (not_true needed)

    are_none : (files : Files) (size : Size) → AreIn (source_file (source.Make size None)) files (λ which. None)
    are_none None size = tt
    are_none (Some held) size = in_none held size

-- the weights were not read
pub weights_fail : (files : Files) (grid weights : List ℕ) (before now : ℕ) (cause : Note)
    → ReadsFile files text.Weights weights before now (Err cause)
    → Finds (source_file (source.Grid grid weights)) files before now (inputs_of (source.Grid grid weights)) (Err cause)
weights_fail files grid weights before now cause reads = record {
  texts = texts_of reads.found (told_text files grid) None;
  found = are_in_both files grid weights reads.found (told_text files grid) None reads.held (told_is files grid);
  comes = fails (source_file (source.Grid grid weights)) files before now text.Weights weights reads.found cause
      (inputs_of (source.Grid grid weights) (texts_of reads.found (told_text files grid) None)) refl reads.held
      (λ c e. ap (λ (r : Result (List ℕ) Note). r >>= (λ w. read_of text.Grid (told_text files grid) >>= (λ g. inputs_in w g))) e) reads.finds;
}

-- the weights of two texts
with_weights : (w : List ℕ) (g : Option (List ℕ)) (grid weights : List ℕ) → length w ≤ limit_of text.Weights
    → inputs_of (source.Grid grid weights) (texts_of (Some w) g None) ≡ (read_of text.Grid g >>= (λ t. inputs_in w t))
with_weights w g grid weights short = ap (λ (r : Result (List ℕ) Note). r >>= (λ v. read_of text.Grid g >>= (λ t. inputs_in v t))) (read_short text.Weights w short)

-- the grid was not read
pub grid_fails : (files : Files) (grid weights : List ℕ) (before middle now : ℕ) (w : Vec ℕ Global) (cause : Note)
    → ReadsFile files text.Weights weights before middle (Ok w) → ReadsFile files text.Grid grid before now (Err cause)
    → Finds (source_file (source.Grid grid weights)) files before now (inputs_of (source.Grid grid weights)) (Err cause)
grid_fails files grid weights before middle now w cause first second = record {
  texts = texts_of (Some w.items) second.found None;
  found = are_in_both files grid weights (Some w.items) second.found None (is_found files weights first.found (Some w.items) first.finds.0 first.held) second.held;
  comes = fails (source_file (source.Grid grid weights)) files before now text.Grid grid second.found cause
      (inputs_of (source.Grid grid weights) (texts_of (Some w.items) second.found None)) refl second.held
      (λ c e. with_weights w.items second.found grid weights first.finds.1 ∙ ap (λ (r : Result (List ℕ) Note). r >>= (λ t. inputs_in w.items t)) e) second.finds;
}

-- both files were read
pub both_read : (files : Files) (grid weights : List ℕ) (before middle now : ℕ) (w g : Vec ℕ Global) (w' g' : List ℕ) (result : Result Inputs Note)
    → ReadsFile files text.Weights weights before middle (Ok w) → ReadsFile files text.Grid grid before now (Ok g) → w' ≡ w.items → g' ≡ g.items
    → Makes (inputs_in w' g') result
    → Finds (source_file (source.Grid grid weights)) files before now (inputs_of (source.Grid grid weights)) result
both_read files grid weights before middle now w g w' g' result first second is_w is_g makes = record {
  texts = texts_of (Some w.items) (Some g.items) None;
  found = are_in_both files grid weights (Some w.items) (Some g.items) None (is_found files weights first.found (Some w.items) first.finds.0 first.held)
      (is_found files grid second.found (Some g.items) second.finds.0 second.held);
  comes = made_comes (source_file (source.Grid grid weights)) files before now
      (inputs_of (source.Grid grid weights) (texts_of (Some w.items) (Some g.items) None)) (inputs_in w' g') result
      (with_weights w.items (Some g.items) grid weights first.finds.1
      ∙ ap (λ (r : Result (List ℕ) Note). r >>= (λ t. inputs_in w.items t)) (read_short text.Grid g.items second.finds.1)
      ∙ ap (λ (v : List ℕ). inputs_in v g.items) (sym is_w) ∙ ap (λ (t : List ℕ). inputs_in w' t) (sym is_g)) makes;
}

-- the weights of a made grid were not read
pub one_fails : (files : Files) (size : Size) (weights : List ℕ) (before now : ℕ) (cause : Note)
    → ReadsFile files text.Weights weights before now (Err cause)
    → Finds (source_file (source.Make size (Some weights))) files before now (inputs_of (source.Make size (Some weights))) (Err cause)
one_fails files size weights before now cause reads = record {
  texts = texts_of reads.found None None;
  found = are_in_one files size weights reads.found None None reads.held;
  comes = fails (source_file (source.Make size (Some weights))) files before now text.Weights weights reads.found cause
      (inputs_of (source.Make size (Some weights)) (texts_of reads.found None None)) refl reads.held
      (λ c e. ap (λ (r : Result (List ℕ) Note). r >>= (λ w. made_with size w)) e) reads.finds;
}

-- they were read
pub one_read : (files : Files) (size : Size) (weights : List ℕ) (before now : ℕ) (w : Vec ℕ Global) (w' : List ℕ) (result : Result Inputs Note)
    → ReadsFile files text.Weights weights before now (Ok w) → w' ≡ w.items → Makes (made_with size w') result
    → Finds (source_file (source.Make size (Some weights))) files before now (inputs_of (source.Make size (Some weights))) result
one_read files size weights before now w w' result reads is_w makes = record {
  texts = texts_of (Some w.items) None None;
  found = are_in_one files size weights (Some w.items) None None (is_found files weights reads.found (Some w.items) reads.finds.0 reads.held);
  comes = made_comes (source_file (source.Make size (Some weights))) files before now
      (inputs_of (source.Make size (Some weights)) (texts_of (Some w.items) None None)) (made_with size w') result
      (ap (λ (r : Result (List ℕ) Note). r >>= (λ v. made_with size v)) (read_short text.Weights w.items reads.finds.1)
      ∙ ap (λ (v : List ℕ). made_with size v) (sym is_w)) makes;
}

-- of a source that names no file
pub no_file_read : (s : Source) (files : Files) (size : Size) (weights : Option (List ℕ)) (before now : ℕ) (result : Result Inputs Note)
    → s ≡ source.Make size weights → weights ≡ None → Makes (inputs_of (source.Make size None) (λ which. None)) result
    → Finds (source_file s) files before now (inputs_of s) result
no_file_read s files size weights before now result is none makes =
    subst (λ (x : Source). Finds (source_file x) files before now (inputs_of x) result) (sym (is ∙ ap (source.Make size) none))
    (none_read files size before now result makes)
