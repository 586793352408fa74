-- The reader of a text's records, and those that it has left: for private functions.
use Rattle.std.specs.Prelude.{◌≡◌, ℕ, ◌+◌, true, List, [], length, Option, Some, IsSome, unwrap_or}
use Rattle.std.specs.Borrow.{Bor}
use Rattle.csv.specs.Reading.{Ready, default_config, is_flexible, reader_config, reader_state, reader_trim}
use Rattle.csv.specs.Reading.{records_from, source_of}
use Rattle.csv.specs.declared.parser.State.{State}
use Rattle.csv.specs.declared.reader.Reader.{Reader}
use Rattle.csv.specs.declared.reader.Trim.TheVariants as trim

-- a reader over bytes in memory
abbrev pub TextReader : Type 0
TextReader = Reader (Bor (List ℕ))

-- the bytes that a reader has left, where it hasn't failed
abbrev pub rest_of : TextReader → Option (List ℕ)
rest_of r = source_of (λ text. Some text.now) r

-- the records that are left from a state of the reader
abbrev pub records_left : State → List ℕ → List (List (List ℕ))
records_left state text = records_from default_config (length text + 2) state text

-- the records that a reader has left
abbrev pub left_of : TextReader → List (List (List ℕ))
left_of r = records_left (reader_state r) (unwrap_or (rest_of r) [])

-- what holds between two reads: the reader takes records of any length, goes on at the next one, and its bytes are
-- known
pub record IsReading (r : TextReader) : Type 0 where
  pub config : reader_config r ≡ default_config
  pub trim : reader_trim r ≡ trim.None
  pub flexible : is_flexible r ≡ true
  pub ready : Ready r
  pub known : IsSome (rest_of r)
