-- The words behind an option, for private functions.
use Rattle.std.specs.Prelude.{◌≡◌, ◌≤◌, false, List, ◌∷◌, length, Option, Some, None, is_some, String}
use Rattle.std.specs.Borrow.{Bor}
use Rattle.std.specs.declared.alloc.Global.{Global}
use Rattle.stencil_words.specs.Options.{Text, options_of, texts}

-- the words behind the option at the front, if one stands there: the words are options where these are
abbrev pub IsBehindFirst : Text → List (String Global) → Option (Bor (List (String Global))) → Type 0
IsBehindFirst word after None = is_some (options_of (word ∷ texts after)) ≡ false
IsBehindFirst word after (Some rest) =
    (length rest.now ≤ length after) × (is_some (options_of (word ∷ texts after)) ≡
    is_some (options_of (texts rest.now)))
