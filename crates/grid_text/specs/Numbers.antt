-- Number texts.
use Rattle.std.specs.Prelude.{ℕ, ◌==◌, Bool, true, false, nat_le, if◌then◌else◌, ℤ, pos, neg_ℤ, unsigned_abs}
use Rattle.std.specs.Prelude.{List, [], ◌∷◌, reverse, Option, Some, None, option_map, Result, Ok, Err}
use Rattle.text_words.specs.Numbers.{unsigned_of}
use Rattle.grid_text.specs.declared.number.NumberFault.{NumberFault}
use Rattle.grid_text.specs.declared.number.NumberFault.TheVariants.{BadForm, OutOfRange}

-- whether a text has a `-` at its front, and what stands behind it
abbrev pub sign_and_digits : List ℕ → Bool × List ℕ
sign_and_digits [] = (false, [])
sign_and_digits (first ∷ rest) = if first == 45 then (true, rest) else (false, first ∷ rest)

-- a number, or its negative
abbrev pub with_sign : Bool → ℕ → ℤ
with_sign true n = neg_ℤ (pos n)
with_sign false n = pos n

-- the value of 1 to 19 decimal digits with or without a `-` before them
unfoldable pub signed_of : List ℕ → Option ℤ
signed_of text = option_map (with_sign (sign_and_digits text).0) (unsigned_of (sign_and_digits text).1)

-- the value where it is from -limit to limit
abbrev pub within : ℕ → Option ℤ → Result ℤ NumberFault
within limit None = Err BadForm
within limit (Some z) = if nat_le (unsigned_abs z) limit then Ok z else Err OutOfRange

-- a text without the spaces at its front
abbrev pub from_first : List ℕ → List ℕ
from_first [] = []
from_first (byte ∷ rest) = if byte == 32 then from_first rest else byte ∷ rest

-- a text without the spaces at both ends
unfoldable pub bare : List ℕ → List ℕ
bare text = reverse (from_first (reverse (from_first text)))
