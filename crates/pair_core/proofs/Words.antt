-- What a word shows after it was stored empty or a bit was added, by the arithmetic of its number. Above this file
-- words are opaque.
use Rattle.std.proofs.Common.{◌≡◌, ◌≢◌, inl, inr, ℕ, ◌+◌, ◌*◌, ◌/◌, ◌%◌, ◌^◌, ◌<◌, ◌≤◌, Bool, true, false, true≢false, sym, ap, ◌∙◌, arith, bit_or, add-zero}
use Rattle.std.specs.Prelude.{IsTrue}
use Rattle.std.proofs.lemmas.Nat.{or_shr, pow_below, div-mul-add, or_comm}
use Rattle.std.proofs.lemmas.Nat.Bits.{bit_at_cat_low, bit_at_above, bit_at-zero, bit_at_or, bit_at-pow_same, bit_at-pow_other, bit_at-lt}
use Rattle.std.proofs.Math.Nat.{div-eq_of_lt}
use Rattle.std.specs.Int.{bit_at}
use Rattle.std.proofs.lemmas.Bool.{cases_lt, cases_eq, eq-eqb, eqb-true}
use Rattle.gate_word.proofs.BitSets.{set_one, one_set}
use Rattle.gate_word.specs.Words.{word_of, round_in, shut_in, bits_in, Has}
use Rattle.gate_word.specs.Order.{IsLater}
use Rattle.pair_core.specs.Words.{bit, empty}

-- a bit is 0 or 1
pub bit_lt : (w j : ℕ) → bit w j < 2
unfolding bit
bit_lt w j = bit_at-lt w j

-- the or with a bit's power of two sets that bit
pub bit_or_here : (w j : ℕ) → bit (bit_or w (2 ^ j)) j ≡ 1
unfolding bit
bit_or_here w j = let e = bit_at_or w (2 ^ j) j in let p = bit_at-pow_same j in let l = bit_at-lt w j in omega (arith, e, p, l)

-- it changes no other bit
pub bit_or_else : (w j i : ℕ) → i ≢ j → bit (bit_or w (2 ^ j)) i ≡ bit w i
unfolding bit
bit_or_else w j i n = let e = bit_at_or w (2 ^ j) i in let p = bit_at-pow_other j i n in omega (arith, e, p)

-- it takes no bit away
pub bit_or_more : (w j i : ℕ) → bit w i ≤ bit (bit_or w (2 ^ j)) i
unfolding bit
bit_or_more w j i = let e = bit_at_or w (2 ^ j) i in omega (arith, e)

-- the round stays, since it stands above all bits
pub round_or : (w j : ℕ) → j < 33 → round_in (bit_or w (2 ^ j)) ≡ round_in w
unfolding round_in
round_or w j h =
    or_shr w (2 ^ j) 33 ∙ (ap (λ (z : ℕ). bit_or (w / 2 ^ 33) z) (div-eq_of_lt (pow_below j 33 h)) ∙ or_comm (w / 2 ^ 33) 0)

-- an empty open word
pub empty_round : (k : ℕ) → round_in (empty k) ≡ k
unfolding round_in empty word_of
empty_round k = let e = div-mul-add k (2 ^ 33) 0 (omega arith) in ap (λ (z : ℕ). z / 2 ^ 33) (add-zero (k * 2 ^ 33 + 0)) ∙ e

-- no bit of it is set
pub empty_bit : (k j : ℕ) → j < 33 → bit (empty k) j ≡ 0
unfolding bit empty word_of
empty_bit k j h = ap (λ (z : ℕ). z / 2 ^ j % 2) (add-zero (k * 2 ^ 33 + 0)) ∙ (bit_at_cat_low k 33 0 j h ∙ bit_at-zero j)

-- bits below 32 are those of the number of 32 bits
low_bit : (w j : ℕ) → j < 32 → bit w j ≡ bit_at (bits_in w) j
unfolding bit bits_in
low_bit w j h =
    let e : w ≡ w / 2 ^ 32 * 2 ^ 32 + w % 2 ^ 32 = omega arith in
    ap (λ (z : ℕ). bit_at z j) e ∙ bit_at_cat_low (w / 2 ^ 32) 32 (w % 2 ^ 32) j h

high_bit : (w j : ℕ) → 32 ≤ j → bit_at (bits_in w) j ≡ 0
unfolding bits_in
high_bit w j h = bit_at_above (w % 2 ^ 32) 32 j (omega arith) h

-- bit 32 says whether the word is shut
shut_is : (w : ℕ) → IsTrue (shut_in w) → bit w 32 ≡ 1
unfolding shut_in bit
shut_is w h = eqb-true (w / 2 ^ 32 % 2) 1 h

is_shut : (w : ℕ) → bit w 32 ≡ 1 → IsTrue (shut_in w)
unfolding shut_in bit
is_shut w h = eq-eqb (w / 2 ^ 32 % 2) 1 h

-- a word is later than another where its round is, or in one round has each of its bits
pub later_round : (a b : ℕ) → IsLater a b → round_in a ≤ round_in b
later_round a b (inl less) = omega arith
later_round a b (inr more) = let e = more.round in omega arith

-- and of two words of one round the later has each bit of the other
pub later_bit : (a b : ℕ) → IsLater a b → round_in a ≡ round_in b → (j : ℕ) → j < 33 → bit a j ≤ bit b j
later_bit a b (inl less) same j h = absurd (omega arith)
later_bit a b (inr more) same j h =
    let small = bit_lt a j in let small2 = bit_lt b j in
    elim (cases_eq (bit a j) 1) [
      | inl one ↦ elim (cases_lt j 32) [
        | inl low ↦
            let set = one_set (bits_in a) j (sym (low_bit a j low) ∙ one) in
            let r : bit b j ≡ 1 = low_bit b j low ∙ set_one (bits_in b) j (more.bits j set) in omega arith
        | inr high ↦
            let e : j ≡ 32 = omega arith in
            let one' : bit a 32 ≡ 1 = ap (bit a) (sym e) ∙ one in
            let r : bit b j ≡ 1 = ap (bit b) e ∙ shut_is b (more.shut (is_shut a one')) in omega arith
      ]
      | inr other ↦ omega arith
    ]

-- what these two say is enough for it
pub later_of : (a b : ℕ) → round_in a ≤ round_in b → (round_in a ≡ round_in b → (j : ℕ) → j < 33 → bit a j ≤ bit b j) → IsLater a b
later_of a b rounds bits =
    elim (cases_lt (round_in a) (round_in b)) [
      | inl less ↦ inl less
      | inr not_less ↦
          let same : round_in a ≡ round_in b = omega arith in
          inr (record {
            round = same;
            bits = λ j set. elim (cases_lt j 32) [
              | inl low ↦
                  let one : bit a j ≡ 1 = low_bit a j low ∙ set_one (bits_in a) j set in
                  let more = bits same j (omega arith) in let small = bit_lt b j in
                  one_set (bits_in b) j (sym (low_bit b j low) ∙ (let z : bit b j ≡ 1 = omega arith in z))
              | inr high ↦ let none = high_bit a j high in let one = set_one (bits_in a) j set in absurd (omega arith)
            ];
            shut = λ s. let one = shut_is a s in let more = bits same 32 (omega arith) in let small = bit_lt b 32 in is_shut b (omega arith);
          })
    ]

-- each word counts as later than itself
pub later_refl : (w : ℕ) → IsLater w w
later_refl w = later_of w w (omega arith) (λ e j h. omega arith)

-- what is later than a later word is later
pub later_trans : (a b c : ℕ) → IsLater a b → IsLater b c → IsLater a c
later_trans a b c p q = later_of a c (let x = later_round a b p in let y = later_round b c q in omega arith) (λ e j h.
    let x = later_round a b p in let y = later_round b c q in
    let u = later_bit a b p (omega arith) j h in let v = later_bit b c q (omega arith) j h in omega arith)

-- a word with one bit more is later
pub later_or : (w j : ℕ) → j < 33 → IsLater w (bit_or w (2 ^ j))
later_or w j h = later_of w (bit_or w (2 ^ j)) (let e = round_or w j h in omega arith) (λ e i l. bit_or_more w j i)

-- a word of a higher round is later, whatever its bits
pub later_newer : (v w : ℕ) → round_in v < round_in w → IsLater v w
later_newer v w h = inl h

-- the bits of a word that was made of parts
pub has_bit : (w r b : ℕ) (s : Bool) → Has w r s b → (j : ℕ) → j < 32 → bit w j ≡ bit_at b j
has_bit w r b s h j low = low_bit w j low ∙ ap (λ (z : ℕ). bit_at z j) h.bits

-- bit 32 is set in one that was made shut
pub has_shut : (w r b : ℕ) → Has w r true b → bit w 32 ≡ 1
has_shut w r b h = shut_is w h.shut

-- and isn't in one that was made open
pub has_open : (w r b : ℕ) → Has w r false b → bit w 32 ≡ 0
has_open w r b h = let small = bit_lt w 32 in elim (cases_eq (bit w 32) 1) [
  | inl one ↦ absurd (true≢false (sym (is_shut w one) ∙ h.shut))
  | inr other ↦ omega arith
]
