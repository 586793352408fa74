-- What the parts of a number text say of it: the sign, the value of the digits, and whether it is within a limit.
use Rattle.std.proofs.Common.{◌≡◌, ℕ, zero, suc, ◌^◌, ◌<◌, ◌≤◌, Bool, true, false, ℤ, pos, neg_ℤ, ◌-ℤ◌, unsigned_abs, List, Option, Some, None, Ok, Err, refl, ap, arith, to_z, of_z, w64}
use Rattle.std.proofs.lemmas.Bool.Decides.{nat_tests}
use Rattle.std.proofs.lemmas.Int.{ints, to_z-of_z, fits_signed_from_abs}
use Rattle.std.specs.Prelude.{if◌then◌else◌, nat_le}
use Rattle.grid_text.specs.declared.number.NumberFault.TheVariants.{OutOfRange}
use Rattle.text_words.specs.Numbers.{unsigned_of}
use Rattle.grid_text.specs.Numbers.{sign_and_digits, signed_of, with_sign, within}

-- where the digits of a text have a value, the text has it with its sign
pub signed-found : (text digits : List ℕ) (negative : Bool) (size : ℕ) → negative ≡ (sign_and_digits text).0 → digits ≡ (sign_and_digits text).1
    → Some size ≡ unsigned_of digits → signed_of text ≡ Some (with_sign negative size)
unfolding signed_of
signed-found text digits negative size a b e = rw (← a, ← b, ← e) refl

-- where the digits of a text have no value, the text has none
pub signed-none : (text digits : List ℕ) → digits ≡ (sign_and_digits text).1 → None ≡ unsigned_of digits → signed_of text ≡ None
unfolding signed_of
signed-none text digits b e = rw (← b, ← e) refl

-- a sign doesn't change the size of a number
pub abs-with_sign : (negative : Bool) (n : ℕ) → unsigned_abs (with_sign negative n) ≡ n
abs-with_sign true zero = refl
abs-with_sign true (suc n) = refl
abs-with_sign false n = refl

-- a size of at most the limit is within it, with either sign
pub within-small : (limit n : ℕ) (negative : Bool) → n ≤ limit → within limit (Some (with_sign negative n)) ≡ Ok (with_sign negative n)
within-small limit n negative h =
    let t : nat_le n limit ≡ true = grind (arith, nat_tests) in
    rw (abs-with_sign negative n, t) refl

-- a size above the limit is out of range, with either sign
pub within-large : (limit n : ℕ) (negative : Bool) → limit < n → within limit (Some (with_sign negative n)) ≡ Err OutOfRange
within-large limit n negative h =
    let t : nat_le n limit ≡ false = grind (arith, nat_tests) in
    rw (abs-with_sign negative n, t) refl

-- a size below 2^63, taken from 0 in 64 bits, gives its negative
pub negated : (n : ℕ) → n < 2 ^ 63 → to_z w64 (of_z w64 (pos 0 -ℤ to_z w64 n)) ≡ neg_ℤ (pos n)
negated n h = omega (arith, ints)

-- a size below 2^63 is the same number in a signed word of 64 bits
pub kept : (n : ℕ) → n < 2 ^ 63 → to_z w64 n ≡ pos n
kept n h = omega (arith, ints)

-- a number below 2^63 in size comes back from its 64 bits
pub exact : (z : ℤ) → unsigned_abs z < 2 ^ 63 → to_z w64 (of_z w64 z) ≡ z
exact z h = to_z-of_z w64 z (fits_signed_from_abs w64 z h)

-- a value within a limit
pub within-ok : (limit : ℕ) (o : Option ℤ) (z : ℤ) → Ok z ≡ within limit o → (o ≡ Some z) × (unsigned_abs z ≤ limit)
within-ok limit None z e = cc e
within-ok limit (Some y) z e = by (nat_le (unsigned_abs y) limit) refl e
  where
    by : (b : Bool) → nat_le (unsigned_abs y) limit ≡ b → Ok z ≡ (if b then Ok y else Err OutOfRange) → (Some y ≡ Some z) × (unsigned_abs z ≤ limit)
    by true t e =
        let same : y ≡ z = cc in
        let low : unsigned_abs y ≤ limit = grind (arith, nat_tests) in
        (ap Some same, rw (← same) low)
    by false t e = cc e
