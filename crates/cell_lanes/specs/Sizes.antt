-- How great a sum may be.
use Rattle.std.specs.Prelude.{ℤ, ◌≤◌, unsigned_abs}

-- a sum over a window: at most 25 weights of at most 1,000 times values of at most 10^12
abbrev pub IsSum : ℤ → Type 0
IsSum z = unsigned_abs z ≤ 25000000000000000
