-- The options in the words of a command line.
use Rattle.std.specs.Prelude.{ℕ, ◌==◌, Bool, true, false, ◌&&◌, not, nat_lt, bytes_eq, codes, if◌then◌else◌, List, []}
use Rattle.std.specs.Prelude.{◌∷◌, length, map, find, Option, Some, None, is_some, option_map, option_and_then, String}
use Rattle.std.specs.Prelude.{string_bytes}
use Rattle.std.specs.declared.alloc.Global.{Global}
use Rattle.std.specs.List.{after_first, before_first, list_all, list_any, position_or_len}

-- the second step, where the first gives a value
infixl 10 ◌>>=◌
abbrev pub ◌>>=◌ : {A B : Type 0} → Option A → (A → Option B) → Option B
o >>= f = option_and_then f o

-- a value, where the test holds
abbrev pub when : {A : Type 0} → Bool → A → Option A
when test x = if test then Some x else None

-- the bytes of a word
abbrev pub Text : Type 0
Text = List ℕ

-- an option: its name and its value
abbrev pub Pair : Type 0
Pair = Text × Text

-- a word behind its first byte, where that is a `-`
abbrev pub undashed : Text → Option Text
undashed [] = None
undashed (first ∷ rest) = when (first == 45) rest

-- what stands behind the `--` at the front of a word
abbrev pub name_part : Text → Option Text
name_part word = do
  rest ← undashed word
  undashed rest

abbrev pub is_equals : ℕ → Bool
is_equals byte = byte == 61

-- whether a text has a `=`
abbrev pub has_equals : Text → Bool
has_equals text = nat_lt (position_or_len is_equals text) (length text)

abbrev pub is_empty : Text → Bool
is_empty text = length text == 0

-- what stands before and behind the first `=`, where there is one and something behind it
abbrev pub divided : Text → Option Pair
divided text =
    when (has_equals text && not (is_empty (after_first is_equals text)))
    (before_first is_equals text, after_first is_equals text)

-- a word `--NAME=VALUE`
unfoldable pub joined : Text → Option Pair
joined word = do
  text ← name_part word
  divided text

-- a word that may stand as a value behind `--NAME`, or name a script's file: it isn't empty, and doesn't begin with `-`
abbrev pub is_value : Text → Bool
is_value [] = false
is_value (first ∷ rest) = not (first == 45)

-- a word `--NAME` and the value behind it
unfoldable pub paired : Text → Text → Option Pair
paired word next = do
  name ← name_part word
  when (not (has_equals name) && is_value next) (name, next)

-- an option and the options behind it, if both are there
abbrev pub before : Pair → Option (List Pair) → Option (List Pair)
before p more = option_map (λ rest. p ∷ rest) more

-- the same where the option is there, and else the other reading
abbrev pub or_else : Option Pair → Option (List Pair) → Option (List Pair) → Option (List Pair)
or_else (Some p) more other = before p more
or_else None more other = other

-- the options that words give, each `--NAME=VALUE` in one word or `--NAME` and the value in two
unfoldable pub options_of : List Text → Option (List Pair)
options_of [] = Some []
options_of (word ∷ []) = or_else (joined word) (Some []) None
options_of (word ∷ next ∷ rest) =
    or_else (joined word) (options_of (next ∷ rest)) (or_else (paired word next) (options_of rest) None)

-- the bytes of each word
abbrev pub texts : List (String Global) → List Text
texts words = map string_bytes words

-- the names of options
abbrev pub names : List Text
names =
    codes "grid" ∷ codes "make" ∷ codes "weights" ∷ codes "steps" ∷ codes "ranks" ∷ codes "send-parts" ∷
    codes "recv-parts" ∷ codes "grain" ∷ codes "depth" ∷ codes "div" ∷ codes "edge" ∷ codes "around" ∷
    codes "until" ∷ codes "tiles" ∷ []

-- the names of two options that aren't given together
abbrev pub exclusions : List (Text × Text)
exclusions =
    (codes "grid", codes "make") ∷ (codes "tiles", codes "ranks") ∷ (codes "tiles", codes "until") ∷ []

abbrev pub is_name : Text → Bool
is_name name = list_any (λ known. bytes_eq known name) names

-- whether options have one of this name
abbrev pub has : Text → List Pair → Bool
has name options = list_any (λ p. bytes_eq p.0 name) options

-- each has a known name, which no other one has
abbrev pub are_sound : List Pair → Bool
are_sound [] = true
are_sound (p ∷ rest) = is_name p.0 && not (has p.0 rest) && are_sound rest

-- the value of the option of a name, where it is given
abbrev pub value : List Pair → Text → Option Text
value options name = option_map (λ p. p.1) (find (λ p. bytes_eq p.0 name) options)

-- the values of options by their names
abbrev pub Values : Type 0
Values = Text → Option Text

-- no two options are given that exclude each other
abbrev pub are_apart : Values → Bool
are_apart given = list_all (λ two. not (is_some (given two.0) && is_some (given two.1))) exclusions
