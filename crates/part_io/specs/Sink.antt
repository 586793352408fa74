-- What a write does to the bytes of a sink.
use Rattle.std.specs.Prelude.{◌≡◌, ℕ, ◌≤◌, List, ◌++◌, length, take, Option, Result, Ok, Err}
use Rattle.std.specs.Option.{option_map}

-- where the bytes are told, these were added; told stays told, and untold untold
abbrev pub Adds : Option (List ℕ) → Option (List ℕ) → List ℕ → Type 0
Adds old new bytes = new ≡ option_map (λ written. written ++ bytes) old

-- some front of the piece was added
abbrev pub AddsFront : Option (List ℕ) → Option (List ℕ) → List ℕ → Type 0
AddsFront old new piece = (n : ℕ) × (n ≤ length piece) × Adds old new (take n piece)

-- the whole piece was added, or on an error some front of it
abbrev pub Writes : {E : Type 0} → Option (List ℕ) → Option (List ℕ) → List ℕ → Result (Unit {0}) E → Type 0
Writes old new piece (Ok _) = Adds old new piece
Writes old new piece (Err _) = AddsFront old new piece
