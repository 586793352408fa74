-- What is kept of the partitions that were taken.
use Rattle.std.specs.Prelude.{◌≡◌, ℕ, List, Option, Some, None, slice_index_or}
use Rattle.part_recv.specs.Receiving.{End}
use Rattle.part_recv.specs.Taking.{Arrived, IsOut}

-- what is kept of partition q is out of the end in its round
abbrev pub AreHeld : List (Option Arrived) → End → Type 0
AreHeld held s = (q : ℕ) (a : Arrived) → slice_index_or held q None ≡ Some a → (a.partition ≡ q) × IsOut a s
