-- The command as `clap` reads it: its options, each with its name in full and one value. For private functions.
use Rattle.std.specs.Prelude.{◌≡◌, true, false, List, map, codes, Option, Some, None}
use Rattle.stencil_words.specs.Options.{Pair, Text, Values, are_sound, names, value}
use Rattle.clap.specs.Words.{App, Rule, first_value, found_of, new_app, new_rule}
use Rattle.clap.specs.Simple.{on_top}
use Rattle.clap.specs.declared.parser.matches.ArgMatches.{ArgMatches}
use Rattle.clap.specs.declared.builder.action.ArgAction.TheVariants.{Set}

-- the argument of a name
abbrev pub option_rule : Text → Rule
option_rule name = record (new_rule name) { long = Some name; action = Some Set }

-- the command, without flags for help
abbrev pub stencil_app : App
stencil_app =
    on_top (λ s. record s { rules = map option_rule names; disable_help_flag = true }) (new_app (codes "stencil"))

-- the values that matches have
abbrev pub given_in : ArgMatches → Values
given_in m name = first_value (found_of m) name

-- matches come where the options are sound, and have their values
abbrev pub Finds : List Pair → Option ArgMatches → Type 0
Finds options None = are_sound options ≡ false
Finds options (Some m) = (are_sound options ≡ true) × ((name : Text) → given_in m name ≡ value options name)
