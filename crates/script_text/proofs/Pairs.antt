-- The bytes of hexadecimal digits are what decoding the digits gives.
use Rattle.std.proofs.Common.{◌≡◌, ℕ, ◌+◌, ◌*◌, ◌%◌, List, [], ◌∷◌, length, Option, Some, None, Result, Ok, Err, inl, inr, refl, ap, ◌∙◌, arith}
use Rattle.std.proofs.lemmas.Bool.{cases_eq}
use Rattle.hex.specs.Hex as hex
use Rattle.hex.specs.Hex.{decode_of, decode_pairs, digit_or_error, hex_digit_value, pair_value}
use Rattle.hex.specs.declared.error.FromHexError.{FromHexError}
use Rattle.hex.proofs.HexLemmas.{decode_of-even, decode_of-odd}
use Rattle.hex.proofs.Pairs.{cons_byte, decode_pairs-ok_pair, decode_pairs-err_pair}
use Rattle.script_text.specs.Words.{◌>>=◌, hex_digit_of, pair_of, pairs_of}

-- the value of a result, where there is one
abbrev pub ok_of : {A : Type 0} → Result A FromHexError → Option A
ok_of (Ok value) = Some value
ok_of (Err fault) = None

-- both read a digit alike
digit : (byte : ℕ) → hex_digit_of byte ≡ hex_digit_value byte
digit byte = grind (arith)

-- the byte of two digits, by their values
values : (high low i : ℕ) (a b : Option ℕ) → (a >>= λ h. b >>= λ l. Some (16 * h + l))
    ≡ ok_of (hex.◌>>=◌ (digit_or_error high i a) (λ h. hex.◌>>=◌ (digit_or_error low (i + 1) b) (λ l. Ok (h * 16 + l))))
values high low i (Some h) (Some l) = ap Some (omega arith)
values high low i (Some h) None = refl
values high low i None b = refl

-- the byte of two digits
pair : (high low i : ℕ) → pair_of high low ≡ ok_of (pair_value high low i)
pair high low i = rw (digit high, digit low) (values high low i (hex_digit_value high) (hex_digit_value low))

-- a byte in front of what is decoded
with_first : (byte : ℕ) (decoded : Result (List ℕ) FromHexError)
    → (ok_of decoded >>= λ bytes. Some (byte ∷ bytes)) ≡ ok_of (cons_byte byte decoded)
with_first byte (Ok bytes) = refl
with_first byte (Err fault) = refl

-- two digits more
step : (high low i : ℕ) (rest : List ℕ) (byte : Result ℕ FromHexError) → pair_value high low i ≡ byte
    → pairs_of rest ≡ ok_of (decode_pairs (i + 2) rest) → pairs_of (high ∷ low ∷ rest) ≡ ok_of (decode_pairs i (high ∷ low ∷ rest))
step high low i rest (Ok byte) is tail =
    let one = pair high low i ∙ ap ok_of is in
    rw (decode_pairs-ok_pair i high low byte rest is, one, tail) (with_first byte (decode_pairs (i + 2) rest))
step high low i rest (Err fault) is tail =
    let one = pair high low i ∙ ap ok_of is in rw (decode_pairs-err_pair i high low fault rest is, one) refl

-- the digits from the place i on
from : (i : ℕ) (word : List ℕ) → pairs_of word ≡ ok_of (decode_pairs i word)
unfolding decode_pairs
from i [] = refl
from i (digit ∷ []) = refl
from i (high ∷ low ∷ rest) = step high low i rest (pair_value high low i) refl (from (i + 2) rest)

no_rest : (byte : Option ℕ) → (byte >>= λ first. None >>= λ others. Some (first ∷ others)) ≡ None
no_rest (Some byte) = refl
no_rest None = refl

-- a digit without a second one
odd_is_none : (word : List ℕ) → length word % 2 ≡ 1 → pairs_of word ≡ None
odd_is_none [] odd = cc odd
odd_is_none (digit ∷ []) odd = refl
odd_is_none (high ∷ low ∷ rest) odd = rw (odd_is_none rest (omega arith)) (no_rest (pair_of high low))

-- the bytes of a word
pub pairs-decode : (word : List ℕ) → pairs_of word ≡ ok_of (decode_of word)
pairs-decode word = elim (cases_eq (length word % 2) 1) [
  | inl odd ↦ rw (decode_of-odd word odd) (odd_is_none word odd)
  | inr even ↦ rw (decode_of-even word (omega arith)) (from 0 word)
]
