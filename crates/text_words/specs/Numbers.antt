-- Decimal numbers.
use Rattle.std.specs.Prelude.{ℕ, Bool, ◌&&◌, nat_le, if◌then◌else◌, List, length, Option, Some, None}
use Rattle.std.specs.Prelude.{option_and_then}
use Rattle.std.specs.Char.{is_ascii_digit}
use Rattle.std.specs.List.{list_all}
use Rattle.std.specs.Str.Parse.{digits_value}

-- 1 to 19 decimal digits
abbrev pub is_unsigned : List ℕ → Bool
is_unsigned text = nat_le 1 (length text) && nat_le (length text) 19 && list_all is_ascii_digit text

-- their value
unfoldable pub unsigned_of : List ℕ → Option ℕ
unsigned_of text = if is_unsigned text then Some (digits_value 10 text) else None

-- their value, where it is at most 4,294,967,295
abbrev pub number_of : List ℕ → Option ℕ
number_of text = option_and_then (λ n. if nat_le n 4294967295 then Some n else None) (unsigned_of text)
