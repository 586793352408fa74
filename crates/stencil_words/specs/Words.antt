-- What the words of the command `stencil` ask for.
use Rattle.std.specs.Prelude.{ℕ, ◌*◌, ◌==◌, Bool, ◌&&◌, nat_le, bytes_eq, codes, if◌then◌else◌, ℤ, pos, unsigned_abs}
use Rattle.std.specs.Prelude.{List, [], ◌∷◌, Option, Some, None, option_map, Result, Ok, Err}
use Rattle.std.specs.List.{slice_split}
use Rattle.part_geometry.specs.declared.TheConstants.{MAX_DEPTH, MAX_GRAIN, MAX_PARTS, MAX_RANKS}
use Rattle.stencil_def.specs.declared.limits.TheConstants.{MAX_CELLS, MAX_DIV, MAX_SIDE, MAX_VALUE}
use Rattle.stencil_def.specs.declared.rule.Around.{Around}
use Rattle.stencil_def.specs.declared.rule.Around.TheVariants as around
use Rattle.cell_lanes.specs.declared.change.TheConstants.{MAX_CHANGE}
use Rattle.halo_message.specs.Message.{shares_few}
use Rattle.text_words.specs.Numbers.{unsigned_of}
use Rattle.grid_text.specs.Numbers.{signed_of, within}
use Rattle.grid_text.specs.declared.number.NumberFault.{NumberFault}
use Rattle.stencil_words.specs.Options.{◌>>=◌, Pair, Text, Values, are_apart, are_sound, options_of, value, when}
use Rattle.stencil_words.specs.declared.words.TheConstants.{MAX_STEPS}
use Rattle.stencil_words.specs.declared.words.PlanWords.{PlanWords}
use Rattle.stencil_words.specs.declared.words.Size.{Size}
use Rattle.stencil_words.specs.declared.words.Source.{Source}
use Rattle.stencil_words.specs.declared.words.Source.TheVariants.{Grid, Make}
use Rattle.stencil_words.specs.declared.words.StencilWords.{StencilWords}
use Rattle.stencil_words.specs.declared.words.TileWords.{TileWords}

-- low ≤ n ≤ high
abbrev pub is_between : ℕ → ℕ → ℕ → Bool
is_between low high n = nat_le low n && nat_le n high

-- a number of 1 to 19 digits in this range
unfoldable pub number_in : ℕ → ℕ → Text → Option ℕ
number_in low high text = do
  n ← unsigned_of text
  when (is_between low high n) n

abbrev pub value_of_result : Result ℤ NumberFault → Option ℤ
value_of_result (Ok z) = Some z
value_of_result (Err fault) = None

-- a number of 1 to 19 digits, with or without a `-` before them, from -limit to limit
unfoldable pub signed_in : ℕ → Text → Option ℤ
signed_in limit text = value_of_result (within limit (signed_of text))

-- `fixed` or `wrap`
abbrev pub around_of : Text → Option Around
around_of text =
    if bytes_eq text (codes "fixed") then Some around.Fixed
    else if bytes_eq text (codes "wrap") then Some around.Wrap
    else None

-- how much a cell may change at most: a number of 1 to 19 digits, up to the most that a cell can change
unfoldable pub change_in : Text → Option ℤ
change_in text = option_map pos (number_in 0 (unsigned_abs MAX_CHANGE) text)

-- what the value reads as, where there is one
abbrev pub if_given : {A : Type 0} → (Text → Option A) → Option Text → Option (Option A)
if_given read None = Some None
if_given read (Some text) = option_map Some (read text)

-- what the value reads as, and the default where there is none
abbrev pub or_default : {A : Type 0} → (Text → Option A) → A → Option Text → Option A
or_default read default None = Some default
or_default read default (Some text) = read text

-- a seed and a size, where each number is in its range
unfoldable pub size_in : Text → Text → Text → Option Size
size_in seed rows cols = do
  s ← number_in 0 2147483647 seed
  r ← number_in 1 MAX_SIDE rows
  c ← number_in 1 MAX_SIDE cols
  when (nat_le (r * c) MAX_CELLS) record { seed = s; rows = r; cols = c }

abbrev pub size_of_parts : List Text → Option Size
size_of_parts (seed ∷ rows ∷ cols ∷ []) = size_in seed rows cols
size_of_parts _ = None

-- SEED,ROWS,COLS
abbrev pub size_of : Text → Option Size
size_of text = size_of_parts (slice_split (λ byte. byte == 44) text)

-- from a file, which goes with a file of weights
unfoldable pub grid_source : Text → Option Text → Option Source
grid_source grid weights = do
  file ← weights
  Some (Grid grid file)

-- from the generator, with or without a file of weights
unfoldable pub made_source : Text → Option Text → Option Source
made_source make weights = do
  size ← size_of make
  Some (Make size weights)

-- one of both
abbrev pub one_source : Option Text → Option Text → Option Text → Option Source
one_source (Some grid) make weights = grid_source grid weights
one_source None (Some make) weights = made_source make weights
one_source None None weights = None

-- where the grid comes from
unfoldable pub source_of : Values → Option Source
source_of given = one_source (given (codes "grid")) (given (codes "make")) (given (codes "weights"))

-- the number that an option gives, from low to high, and the default where it isn't given
abbrev pub number_given : Values → Text → ℕ → ℕ → ℕ → Option ℕ
number_given given name low high default = or_default (number_in low high) default (given name)

-- the plan that the options ask for: the least common multiple of both numbers of partitions is at most 8,192
unfoldable pub plan_words : Values → Option PlanWords
plan_words given = do
  ranks ← number_given given (codes "ranks") 1 MAX_RANKS 1
  send_parts ← number_given given (codes "send-parts") 1 MAX_PARTS 1
  recv_parts ← number_given given (codes "recv-parts") 1 MAX_PARTS 1
  grain ← number_given given (codes "grain") 1 MAX_GRAIN 1
  depth ← number_given given (codes "depth") 1 MAX_DEPTH 1
  when (shares_few send_parts recv_parts)
      record { ranks = ranks; send_parts = send_parts; recv_parts = recv_parts; grain = grain; depth = depth }

-- as many rows of tiles and columns of tiles, where there are at most 64 tiles
unfoldable pub tiles_in : Text → Text → Option TileWords
tiles_in rows cols = do
  a ← number_in 1 MAX_RANKS rows
  b ← number_in 1 MAX_RANKS cols
  when (nat_le (a * b) MAX_RANKS) record { rows = a; cols = b }

abbrev pub tiles_of_parts : List Text → Option TileWords
tiles_of_parts (rows ∷ cols ∷ []) = tiles_in rows cols
tiles_of_parts _ = None

-- A,B
abbrev pub tiles_of : Text → Option TileWords
tiles_of text = tiles_of_parts (slice_split (λ byte. byte == 44) text)

-- the tiles that the options ask for, where they ask for some
abbrev pub tiles_given : Values → Option (Option TileWords)
tiles_given given = if_given tiles_of (given (codes "tiles"))

-- what the options say beside where the grid comes from and what tiles share it
unfoldable pub with_source : Values → Source → Option TileWords → Option StencilWords
with_source given source tiles = do
  steps ← number_given given (codes "steps") 0 MAX_STEPS 1
  plan ← plan_words given
  div ← number_given given (codes "div") 1 MAX_DIV 1
  edge ← or_default (signed_in (unsigned_abs MAX_VALUE)) (pos 0) (given (codes "edge"))
  around ← or_default around_of around.Fixed (given (codes "around"))
  until ← if_given change_in (given (codes "until"))
  Some record {
    source = source;
    steps = steps;
    plan = plan;
    tiles = tiles;
    div = div;
    edge = edge;
    around = around;
    until = until;
  }

-- the reading of values
unfoldable pub reading_of_values : Values → Option StencilWords
reading_of_values given = do
  apart ← when (are_apart given) given
  source ← source_of apart
  tiles ← tiles_given apart
  with_source apart source tiles

-- the reading of options, where each has a known name and no two have one
unfoldable pub reading_of_options : List Pair → Option StencilWords
reading_of_options options = do
  sound ← when (are_sound options) options
  reading_of_values (value sound)

-- the reading of the words behind the command
unfoldable pub reading_of : List Text → Option StencilWords
reading_of words = do
  options ← options_of words
  reading_of_options options

-- the reading of all words, of which the first is the command
unfoldable pub stencil_reading : List Text → Option StencilWords
stencil_reading [] = None
stencil_reading (command ∷ words) = if bytes_eq command (codes "stencil") then reading_of words else None
