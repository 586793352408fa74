-- The files that a shelf in memory holds.
use Rattle.std.specs.Prelude.{◌≡◌, ◌≢◌, ℕ, List, Option, Some}
use Rattle.std.specs.Option.{option_map}
use Rattle.std.specs.BTreeMap.{get_by_text}
use Rattle.part_io.specs.declared.steady_shelf.SteadyShelf.{SteadyShelf}

-- the bytes that the shelf has under a name
abbrev pub held : SteadyShelf → List ℕ → Option (List ℕ)
held shelf name = option_map (λ bytes. bytes.items) (get_by_text shelf.files name)

-- the file of this name has these bytes, and every other is as it was
pub record Puts (old new : List ℕ → Option (List ℕ)) (name bytes : List ℕ) : Type 0 where
  pub there : new name ≡ Some bytes
  pub others : (other : List ℕ) → other ≢ name → new other ≡ old other
