-- Bytes written over others.
use Rattle.std.specs.Prelude.{ℕ, ◌+◌, List, ◌++◌, length, take, drop}

-- old with the piece in the place of what stood from `at` on
unfoldable pub written : List ℕ → ℕ → List ℕ → List ℕ
written old at piece = take at old ++ (piece ++ drop (at + length piece) old)
