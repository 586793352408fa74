-- What a parse of the command says of the options in its words.
use Rattle.std.proofs.Common.{◌≡◌, ◌∙◌, true, false, List, [], ◌∷◌, Some, ap, inl, inr, drop, ⊎_elim}
use Rattle.stencil_words.specs.Command.{stencil_app}
use Rattle.stencil_words.specs.Options.{Pair, Text, are_sound, options_of, value}
use Rattle.stencil_words.proofs.OutcomeFacts.{reads}
use Rattle.clap.proofs.WalkLemmas.{first_value-rows}
use Rattle.clap.specs.Faults.{fault_of}
use Rattle.clap.specs.Kinds.{HasKind, IsAmong, Kinds}
use Rattle.clap.specs.Matches.{first_value}
use Rattle.clap.specs.Simple.{matches_of}
use Rattle.clap.specs.Values.{kind_of}
use Rattle.clap.specs.Walk.{first_of, rows_of}
use Rattle.clap.specs.declared.error.Error.{Error}
use Rattle.clap.specs.declared.error.kind.ErrorKind.TheVariants.{OutOfMemory}
use Rattle.clap.specs.declared.parser.matches.Found.{Found}

-- with matches the options are sound, and have the values that were found
pub finds : (words : List Text) (options : List Pair) (found : Found) → options_of (drop 1 words) ≡ Some options → fault_of stencil_app words ≡ []
    → rows_of found ≡ matches_of stencil_app words
    → (are_sound options ≡ true) × ((name : Text) → first_value found name ≡ value options name)
finds words options found e none same = elim (reads words options e) [
  | inl t ↦ (t.sound, λ name. first_value-rows found name ∙ ap (first_of name) same ∙ t.values name)
  | inr r ↦ absurd (r.faulty none)
]

-- with an error that isn't want of memory they aren't sound
pub refuses : (words : List Text) (options : List Pair) (error : Error) → options_of (drop 1 words) ≡ Some options → HasKind (fault_of stencil_app words) error
    → (kind_of error ≡ OutOfMemory → ⊥) → are_sound options ≡ false
refuses words options error e kind other = elim (reads words options e) [
  | inl t ↦ absurd (none t.faultless)
  | inr r ↦ r.unsound
]
  where
    among : (ks : Kinds) → ks ≡ [] → IsAmong (kind_of error) ks → ⊥
    among [] f h = h
    among (k ∷ ks) f h = cc f

    none : fault_of stencil_app words ≡ [] → ⊥
    none f = ⊎_elim other (among (fault_of stencil_app words) f) kind
