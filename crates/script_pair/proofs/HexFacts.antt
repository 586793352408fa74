-- The hexadecimal digits of bytes are what encoding the bytes gives: the sixteen digits of both are compared, and then
-- each byte has the same two.
use Rattle.std.proofs.Common.{◌≡◌, ℕ, ◌<◌, ◌/◌, ◌%◌, ◌==◌, List, [], ◌∷◌, get_or, suc, refl, arith}
use Rattle.std.proofs.lemmas.Bool.{eqb-true}
use Rattle.hex.specs.Hex.{encode_lower, encode_with, lower_digits}
use Rattle.plain_pair.proofs.Counts.{list_all-each}
use Rattle.script_pair.specs.Texts.{hex_digit, hex_of}

-- the digits of the table, and of the text
digit : (n : ℕ) → n < 16 → get_or lower_digits n 0 ≡ hex_digit n
digit n small = eqb-true _ _ (list_all-each (λ k. get_or lower_digits k 0 == hex_digit k) 0 16 refl n (omega arith) (omega arith))

-- the hexadecimal text of bytes
pub encode_lower-hex_of : (bytes : List ℕ) → ((k : ℕ) → get_or bytes k 0 < 256) → encode_lower bytes ≡ hex_of bytes
unfolding encode_with
encode_lower-hex_of [] small = refl
encode_lower-hex_of (byte ∷ rest) small =
    let here : byte < 256 = small 0 in
    let high : byte / 16 < 16 = omega arith in
    let low : byte % 16 < 16 = omega arith in
    rw (digit (byte / 16) high, digit (byte % 16) low, encode_lower-hex_of rest (λ k. small (suc k))) refl
