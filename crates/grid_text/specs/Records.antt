-- The records of a text.
use Rattle.std.specs.Prelude.{ℕ, List}
use Rattle.csv.specs.Reading.{default_config, records, strip_bom}

-- the records of a text, each a list of fields, as the reader of `csv` gives them: with the comma, quotes and
-- both line ends, without headers and without a byte order mark at the front
abbrev pub records_of : List ℕ → List (List (List ℕ))
records_of text = records default_config (strip_bom text)
