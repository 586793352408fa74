-- A printed number reads back as itself: it is digits, with or without a `-` before them, so no space is cut off and
-- no byte calls for quotes.
use Rattle.std.proofs.Common.{◌≡◌, ◌≢◌, ℕ, suc, ◌+◌, ◌/◌, ◌%◌, ◌^◌, ◌<◌, ◌≤◌, Bool, true, false, ℤ, pos, negsuc, unsigned_abs, List, [], ◌∷◌, ◌++◌, length, reverse, Some, Ok, refl, ap, arith}
use Rattle.std.specs.Prelude.{◌==◌, nat_le, nat_lt}
use Rattle.std.specs.Char.{digit_value, is_ascii_digit}
use Rattle.std.specs.Fmt.{decimal, signed_decimal}
use Rattle.std.specs.List.{list_all, list_any}
use Rattle.std.specs.Str.Parse.{AllDigits}
use Rattle.std.proofs.lemmas.Bool.Decides.{nat_tests}
use Rattle.std.proofs.lemmas.Fmt.{decimal_digit, decimal_is_IsNumeral, decimal_step, length-decimal-le}
use Rattle.std.proofs.lemmas.List.{reverse-append, reverse-reverse}
use Rattle.csv.specs.Writing.{default_writer, needs_byte}
use Rattle.stencil_def.specs.Limits.{IsValue}
use Rattle.text_words.specs.Numbers.{unsigned_of}
use Rattle.grid_text.specs.Numbers.{bare, from_first, sign_and_digits, signed_of, within}

-- a decimal digit
digit-byte : (c : ℕ) → digit_value c < 10 → (48 ≤ c) × (c ≤ 57)
digit-byte c h = (grind (arith, nat_tests), grind (arith, nat_tests))

digit-test : (c : ℕ) → 48 ≤ c → c ≤ 57 → is_ascii_digit c ≡ true
digit-test c a b = grind (arith, nat_tests)

-- a byte that calls for no quotes
plain-byte : (c : ℕ) → 45 ≤ c → c ≤ 57 → needs_byte default_writer c ≡ false
plain-byte c a b =
    let comma : (c == 44) ≡ false = grind (arith, nat_tests) in
    let quote : (c == 34) ≡ false = grind (arith, nat_tests) in
    let cr : (c == 13) ≡ false = grind (arith, nat_tests) in
    let lf : (c == 10) ≡ false = grind (arith, nat_tests) in
    rw (comma, quote, cr, lf) refl

digits-test : (ds : List ℕ) → AllDigits 10 ds → list_all is_ascii_digit ds ≡ true
digits-test [] h = refl
digits-test (c ∷ cs) h =
    let byte = digit-byte c h.0 in
    rw (digit-test c byte.0 byte.1, digits-test cs h.1) refl

digits-plain : (ds : List ℕ) → AllDigits 10 ds → list_any (needs_byte default_writer) ds ≡ false
digits-plain [] h = refl
digits-plain (c ∷ cs) h =
    let byte = digit-byte c h.0 in
    rw (plain-byte c (omega arith) byte.1, digits-plain cs h.1) refl

-- the first byte and the last
digits-first : (ds : List ℕ) → 0 < length ds → AllDigits 10 ds → (c : ℕ) × (rest : List ℕ) × (ds ≡ c ∷ rest) × (48 ≤ c) × (c ≤ 57)
digits-first [] n h = absurd (omega arith)
digits-first (c ∷ cs) n h = let byte = digit-byte c h.0 in (c, cs, refl, byte.0, byte.1)

decimal-last : (n : ℕ) → n < 2 ^ 64 → (front : List ℕ) × (c : ℕ) × (decimal n ≡ front ++ c ∷ []) × (48 ≤ c)
decimal-last n h = by (nat_lt n 10) refl
  where
    by : (b : Bool) → nat_lt n 10 ≡ b → (front : List ℕ) × (c : ℕ) × (decimal n ≡ front ++ c ∷ []) × (48 ≤ c)
    by true t = let small : n < 10 = grind (arith, nat_tests) in ([], 48 + n, decimal_digit n small, omega arith)
    by false t = let large : 10 ≤ n = grind (arith, nat_tests) in (decimal (n / 10), 48 + n % 10, decimal_step n large h, omega arith)

-- a text with no space at either end
from-first-same : (c : ℕ) (rest : List ℕ) → c ≢ 32 → from_first (c ∷ rest) ≡ c ∷ rest
from-first-same c rest n = let t : (c == 32) ≡ false = grind (arith, nat_tests) in rw t refl

bare-same : (text rest front : List ℕ) (first last : ℕ) → text ≡ first ∷ rest → first ≢ 32 → text ≡ front ++ last ∷ [] → last ≢ 32 → bare text ≡ text
unfolding bare
bare-same text rest front first last a m b n =
    let front_same : from_first text ≡ text = rw a (from-first-same first rest m) in
    let turned : reverse text ≡ last ∷ reverse front = rw b (reverse-append front (last ∷ [])) in
    let back_same : from_first (reverse text) ≡ reverse text = rw turned (from-first-same last (reverse front) n) in
    rw (front_same, back_same) (reverse-reverse text)

unsigned-read : (n : ℕ) → n < 10 ^ 18 → unsigned_of (decimal n) ≡ Some n
unfolding unsigned_of
unsigned-read n h =
    let bound : n < 2 ^ 64 = omega arith in
    let numeral = decimal_is_IsNumeral n bound in
    let short = length-decimal-le 18 n (omega arith) h bound in
    let some = numeral.0.0 in
    let a : nat_le 1 (length (decimal n)) ≡ true = grind (arith, nat_tests) in
    let b : nat_le (length (decimal n)) 19 ≡ true = grind (arith, nat_tests) in
    rw (a, b, digits-test (decimal n) numeral.0.1, numeral.1) refl

sign-none : (ds : List ℕ) → 0 < length ds → AllDigits 10 ds → sign_and_digits ds ≡ (false, ds)
sign-none [] n h = absurd (omega arith)
sign-none (c ∷ cs) n h =
    let byte = digit-byte c h.0 in
    let t : (c == 45) ≡ false = grind (arith, nat_tests) in
    rw t refl

-- a printed value reads as that value
pub signed-read : (z : ℤ) → IsValue z → signed_of (signed_decimal z) ≡ Some z
unfolding signed_of
signed-read (pos n) h =
    let bound : n < 2 ^ 64 = omega arith in
    let numeral = decimal_is_IsNumeral n bound in
    rw (sign-none (decimal n) numeral.0.0 numeral.0.1, unsigned-read n (omega arith)) refl
signed-read (negsuc n) h = rw (unsigned-read (suc n) (omega arith)) refl

-- a printed value has no space at either end
pub signed-bare : (z : ℤ) → IsValue z → bare (signed_decimal z) ≡ signed_decimal z
signed-bare (pos n) h =
    let bound : n < 2 ^ 64 = omega arith in
    let numeral = decimal_is_IsNumeral n bound in
    let first = digits-first (decimal n) numeral.0.0 numeral.0.1 in
    let last = decimal-last n bound in
    bare-same (decimal n) first.1 last.0 first.0 last.1 first.2 (omega (arith, first.3)) last.2 (omega (arith, last.3))
signed-bare (negsuc n) h =
    let last = decimal-last (suc n) (omega arith) in
    bare-same (45 ∷ decimal (suc n)) (decimal (suc n)) (45 ∷ last.0) 45 last.1 refl (omega arith) (ap (λ (ds : List ℕ). 45 ∷ ds) last.2) (omega (arith, last.3))

-- a printed number has bytes, none of which calls for quotes, and doesn't begin as a byte order mark does
pub record IsPlain (text : List ℕ) : Type 0 where
  pub quiet : list_any (needs_byte default_writer) text ≡ false
  pub first : ℕ
  pub rest : List ℕ
  pub begins : text ≡ first ∷ rest
  pub low : first ≤ 57

-- a printed value is such a text
pub signed-plain : (z : ℤ) → IsValue z → IsPlain (signed_decimal z)
signed-plain (pos n) h =
    let numeral = decimal_is_IsNumeral n (omega arith) in
    let first = digits-first (decimal n) numeral.0.0 numeral.0.1 in
    record { quiet = digits-plain (decimal n) numeral.0.1; first = first.0; rest = first.1; begins = first.2; low = first.4 }
signed-plain (negsuc n) h =
    let numeral = decimal_is_IsNumeral (suc n) (omega arith) in
    record { quiet = digits-plain (decimal (suc n)) numeral.0.1; first = 45; rest = decimal (suc n); begins = refl; low = omega arith }

-- a printed value reads as a number within the limit of a cell
pub signed-within : (z : ℤ) → IsValue z → Ok z ≡ within 1000000000000 (signed_of (signed_decimal z))
signed-within z h =
    let t : nat_le (unsigned_abs z) 1000000000000 ≡ true = grind (arith, nat_tests) in
    rw (signed-read z h, t) refl
