-- How great the parts of a sum may be, for private functions.
use Rattle.std.specs.Prelude.{ℤ, ◌≤◌, unsigned_abs}

-- a sum over a row of a window, at most 5 weights
abbrev pub IsRowSum : ℤ → Type 0
IsRowSum z = unsigned_abs z ≤ 5000000000000000

-- the sum of at most 4 values
abbrev pub IsAlike : ℤ → Type 0
IsAlike z = unsigned_abs z ≤ 4000000000000

-- a sum over a row of such sums: at most 3 weights times them
abbrev pub IsAlikeSum : ℤ → Type 0
IsAlikeSum z = unsigned_abs z ≤ 12000000000000000

-- a part of a sum, of which two may be added: at most 9 weights times sums of 4 values
abbrev pub IsPart : ℤ → Type 0
IsPart z = unsigned_abs z ≤ 36000000000000000
