-- How the spaces at the end of a text go.
use Rattle.std.proofs.Common.{ℕ, List, reverse}
use Rattle.grid_text.specs.Numbers.{from_first}

-- a text without the spaces at its end
abbrev pub until_last : List ℕ → List ℕ
until_last text = reverse (from_first (reverse text))
