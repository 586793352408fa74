-- The words of a script: names, lists of partitions and bytes.
use Rattle.std.specs.Prelude.{ℕ, ◌+◌, ◌-◌, ◌*◌, Bool, ◌&&◌, ◌||◌, ◌==◌, nat_le, bytes_eq, codes, if◌then◌else◌, List, [], ◌∷◌, length, Option, Some, None, option_and_then}
use Rattle.std.specs.List.{list_all, slice_split}
use Rattle.text_words.specs.Numbers.{number_of}

-- the second step, where the first gives a value
infixl 10 ◌>>=◌
abbrev pub ◌>>=◌ : {A B : Type 0} → Option A → (A → Option B) → Option B
o >>= f = option_and_then f o

-- a value, where the test holds
abbrev pub when : {A : Type 0} → Bool → A → Option A
when test x = if test then Some x else None

-- low ≤ n ≤ high
abbrev pub is_within : ℕ → ℕ → ℕ → Bool
is_within low high n = nat_le low n && nat_le n high

-- `0` to `9`
abbrev pub is_digit : ℕ → Bool
is_digit byte = is_within 48 57 byte

-- `A` to `Z`, `a` to `z`, `0` to `9` or `_`
abbrev pub is_name_byte : ℕ → Bool
is_name_byte byte = is_within 65 90 byte || is_within 97 122 byte || is_digit byte || byte == 95

-- a name: 1 to 16 such bytes
abbrev pub is_name : List ℕ → Bool
is_name word = is_within 1 16 (length word) && list_all is_name_byte word

abbrev pub name_of : List ℕ → Option (List ℕ)
name_of word = when (is_name word) word

-- what each of the words is, where each is a number
abbrev pub each_number : List (List ℕ) → Option (List ℕ)
each_number [] = Some []
each_number (word ∷ rest) = do
  first ← number_of word
  others ← each_number rest
  Some (first ∷ others)

-- a list of partitions: numbers joined by one comma each
abbrev pub numbers_of : List ℕ → Option (List ℕ)
numbers_of word = each_number (slice_split (λ byte. byte == 44) word)

-- the value of a hexadecimal digit: `0` to `9`, `A` to `F` or `a` to `f`
abbrev pub hex_digit_of : ℕ → Option ℕ
hex_digit_of byte =
    if is_digit byte then Some (byte - 48)
    else if is_within 65 70 byte then Some (byte - 55)
    else if is_within 97 102 byte then Some (byte - 87)
    else None

-- the byte of two hexadecimal digits, the high one first
abbrev pub pair_of : ℕ → ℕ → Option ℕ
pair_of high low = do
  h ← hex_digit_of high
  l ← hex_digit_of low
  Some (16 * h + l)

-- the bytes of an even number of hexadecimal digits
abbrev pub pairs_of : List ℕ → Option (List ℕ)
pairs_of [] = Some []
pairs_of (digit ∷ []) = None
pairs_of (high ∷ low ∷ rest) = do
  byte ← pair_of high low
  bytes ← pairs_of rest
  Some (byte ∷ bytes)

-- bytes: `-` for none, and else at least two digits
abbrev pub bytes_of : List ℕ → Option (List ℕ)
bytes_of word =
    if bytes_eq word (codes "-") then Some []
    else if length word == 0 then None
    else pairs_of word
