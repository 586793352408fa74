-- What a watcher's look answers, and what the watcher has seen then.
use Rattle.std.specs.Prelude.{◌≡◌, ℕ, ◌<◌, ◌≤◌}
use Rattle.gate_word.specs.Words.{round_in}
use Rattle.pair_core.specs.Names.{Piece}
use Rattle.pair_core.specs.Reading.{IsFull}
use Rattle.pair_rule.specs.Views.{seen}
use Rattle.pair_rule.specs.declared.view.View.{View}
use Rattle.part_recv.specs.Seeing.{SeesAll, Misses, place_in}
use Rattle.part_recv.specs.declared.answers.Look.{Look}
use Rattle.part_recv.specs.declared.answers.Look.TheVariants.{BadPartition, NotYet, Past, Arrived}

-- the seat had not seen piece i full in round k
abbrev pub IsNew : ℕ → ℕ → View → Type 0
IsNew k i d = ¬ IsFull d.geometry (seen d (Piece (place_in d k) i)) k i

-- the answer of a look for round k at receive partition q; the first piece that isn't full in the round may be in a
-- later one
abbrev pub IsLook : ℕ → ℕ → Look → View → View → Type 0
IsLook k q BadPartition old new = (old.geometry.recv_parts ≤ q) × (new ≡ old)
IsLook k q (NotYet i w) old new =
    (q < old.geometry.recv_parts) × Misses k q i w old new × (round_in w ≤ k) × IsNew k i old
IsLook k q (Past w) old new = (q < old.geometry.recv_parts) × (k < round_in w) × ((i : ℕ) × Misses k q i w old new)
IsLook k q Arrived old new = (q < old.geometry.recv_parts) × SeesAll k q old new
