-- The reciprocal of a divisor, as a whole number: what a `Divisor` keeps, for private functions.
use Rattle.std.specs.Prelude.{ℕ, ◌+◌, ◌*◌, ◌^◌, ◌<◌, ◌≤◌}
use Rattle.stencil_def.specs.Limits.{IsWithin}
use Rattle.stencil_def.specs.declared.limits.TheConstants.{MAX_DIV}

-- A divisor has shift + 1 binary digits, and the reciprocal is the greatest number whose product with the divisor
-- is below 2 ^ (64 + shift).
pub record IsReciprocal (divisor reciprocal shift : ℕ) : Type 0 where
  pub limits : IsWithin 1 MAX_DIV divisor
  pub digits : shift < 64
  pub least : 2 ^ shift ≤ divisor
  pub most : divisor < 2 * 2 ^ shift
  pub below : reciprocal * divisor < 2 ^ (64 + shift)
  pub next : 2 ^ (64 + shift) ≤ (reciprocal + 1) * divisor
