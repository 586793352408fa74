-- The limits of a grid, of weights and of a rule.
use Rattle.std.specs.Prelude.{ℕ, ◌≤◌, ℤ, pos, ◌≤ℤ◌, unsigned_abs}
use Rattle.stencil_def.specs.declared.limits.TheConstants.{MAX_DIV, MAX_SIDE, MAX_VALUE, MAX_WEIGHT}

-- low ≤ n ≤ high
abbrev pub IsWithin : ℕ → ℕ → ℕ → Type 0
IsWithin low high n = (low ≤ n) × (n ≤ high)

-- a number of rows, or of columns: from 1 to 4,096
abbrev pub IsSide : ℕ → Type 0
IsSide n = IsWithin 1 MAX_SIDE n

-- a value of a cell, or of the edge: from -10^12 to 10^12
abbrev pub IsValue : ℤ → Type 0
IsValue z = unsigned_abs z ≤ unsigned_abs MAX_VALUE

-- a weight: from -1,000 to 1,000
abbrev pub IsWeight : ℤ → Type 0
IsWeight z = unsigned_abs z ≤ unsigned_abs MAX_WEIGHT

-- a divisor: from 1 to 1,000,000
abbrev pub IsDiv : ℤ → Type 0
IsDiv z = (pos 1 ≤ℤ z) × (z ≤ℤ pos MAX_DIV)
