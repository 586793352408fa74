-- A list of the records of closed pairs, as contracts see it.
use Rattle.std.specs.Prelude.{ℕ, List}
use Rattle.pair_rule.specs.Seats.{ClosedOf}

-- the records, in the order in which they were added, and for how many more there is room
pub record Records : Type 0 where
  pub records : List ClosedOf
  pub spare : ℕ
