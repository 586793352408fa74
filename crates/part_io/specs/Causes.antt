-- How a count of faults goes with what a call returns.
use Rattle.std.specs.Prelude.{◌≡◌, ℕ, ◌+◌, ◌-◌, ◌^◌, ◌≤◌, min, Result, OnOk, OnErr}

-- the count went up; at the last value of u64 it counts as having gone up
abbrev pub Rose : ℕ → ℕ → Type 0
Rose before now = min (before + 1) (2 ^ 64 - 1) ≤ now

-- every error was counted, and nothing else
pub record HasCause {T E : Type 0} (before now : ℕ) (result : Result T E) : Type 0 where
  pub later : before ≤ now
  pub failed : OnErr result (Rose before now)
  pub kept : OnOk result (now ≡ before)

-- a count of calls went up by one, or stands at its last value
abbrev pub Next : ℕ → ℕ → ℕ → Type 0
Next last before now = now ≡ min (before + 1) last
