-- The lanes of a vector of two cells, for private functions.
use Rattle.std.specs.Prelude.{ℕ, ℤ, List, [], ◌∷◌}

-- f 0 and f 1
abbrev pub two : (ℕ → ℤ) → List ℤ
two f = f 0 ∷ f 1 ∷ []
