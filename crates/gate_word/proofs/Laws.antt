-- The order of words is a partial order, and the join is the least word above both. Rounds decide first; in one round,
-- bits and the shut mark are compared as sets are.
use Rattle.std.proofs.Common.{◌≡◌, ℕ, ◌^◌, ◌<◌, Bool, true, false, ◌||◌, refl, sym, subst, ◌∙◌, arith, inl, inr}
use Rattle.std.specs.Prelude.{IsTrue, bit_or}
use Rattle.std.proofs.lemmas.Bool.{cases_order, lt-ltb, le-ltb, or_cases, or_left, or_right}
use Rattle.std.proofs.lemmas.Nat.{or_lt}
use Rattle.gate_word.specs.Words.{IsWord, word_of, round_in, shut_in, bits_in, Has}
use Rattle.gate_word.specs.Order.{AreIn, IsLater, IsPartialOrder, join_of, IsLeastAbove, IsJoin}
use Rattle.gate_word.proofs.Packing.{made, read, fits, limits, bits-small}
use Rattle.gate_word.proofs.BitSets.{in-same, or-first, or-second, or-least}

reflexive : (a : ℕ) → IsLater a a
reflexive a = inr (record { round = refl; bits = λ i set. set; shut = λ s. s })

-- two truths of which each gives the other are equal
same_bool : (s t : Bool) → (IsTrue s → IsTrue t) → (IsTrue t → IsTrue s) → s ≡ t
same_bool true t there back = sym (there refl)
same_bool false true there back = back refl
same_bool false false there back = refl

antisymmetric : (a b : ℕ) → IsLater a b → IsLater b a → a ≡ b
antisymmetric a b (inl less) (inl more) = absurd (omega arith)
antisymmetric a b (inl less) (inr back) = let e = back.round in absurd (omega arith)
antisymmetric a b (inr there) (inl more) = let e = there.round in absurd (omega arith)
antisymmetric a b (inr there) (inr back) =
    let bits = in-same (bits_in a) (bits_in b) there.bits back.bits in
    let shut = same_bool (shut_in a) (shut_in b) there.shut back.shut in
    let e : word_of (round_in a) (shut_in a) (bits_in a) ≡ word_of (round_in b) (shut_in b) (bits_in b) = rw (there.round, shut, bits) refl in
    sym (read a) ∙ e ∙ read b

transitive : (a b c : ℕ) → IsLater a b → IsLater b c → IsLater a c
transitive a b c (inl less) (inl more) = inl (omega arith)
transitive a b c (inl less) (inr next) = let e = next.round in inl (omega arith)
transitive a b c (inr first) (inl more) = let e = first.round in inl (omega arith)
transitive a b c (inr first) (inr next) = inr (record {
  round = first.round ∙ next.round;
  bits = λ i set. next.bits i (first.bits i set);
  shut = λ s. next.shut (first.shut s);
})

-- the order of words is reflexive, antisymmetric and transitive
pub order : IsPartialOrder
order = record { reflexive = reflexive; antisymmetric = antisymmetric; transitive = transitive }

-- the join is the second word where its round is greater
pub join_second : (a b : ℕ) → round_in a < round_in b → join_of a b ≡ b
unfolding join_of
join_second a b less = rw (lt-ltb _ _ less) refl

-- and the first word where that has the greater round
pub join_first : (a b : ℕ) → round_in b < round_in a → join_of a b ≡ a
unfolding join_of
join_first a b more = rw (le-ltb (round_in a) (round_in b) (omega arith), lt-ltb (round_in b) (round_in a) more) refl

-- in one round the join has the bits of both, and is shut where one is
pub join_both : (a b : ℕ) → round_in a ≡ round_in b
    → join_of a b ≡ word_of (round_in a) (shut_in a || shut_in b) (bit_or (bits_in a) (bits_in b))
unfolding join_of
join_both a b same = rw (le-ltb (round_in a) (round_in b) (omega arith), le-ltb (round_in b) (round_in a) (omega arith)) refl

-- the bits of two words together are below 2 ^ 32
both_small : (a b : ℕ) → bit_or (bits_in a) (bits_in b) < 2 ^ 32
both_small a b = or_lt 32 _ _ (bits-small a) (bits-small b)

-- what is above both is above a word that has the parts of both
below_all : (a b c d : ℕ) → round_in a ≡ round_in b
    → Has c (round_in a) (shut_in a || shut_in b) (bit_or (bits_in a) (bits_in b)) → IsLater a d → IsLater b d → IsLater c d
below_all a b c d same has (inl less) second = let e = has.round in inl (omega arith)
below_all a b c d same has (inr first) (inl less) = let e = has.round in inl (omega arith)
below_all a b c d same has (inr first) (inr second) = inr (record {
  round = has.round ∙ first.round;
  bits = subst (λ n. AreIn n (bits_in d)) (sym has.bits) (or-least (bits_in a) (bits_in b) (bits_in d) first.bits second.bits);
  shut = λ s. elim (or_cases (shut_in a) (shut_in b) (sym has.shut ∙ s)) [ inl x ↦ first.shut x | inr y ↦ second.shut y ];
})

-- a word that has the parts of both is the least above both
least_both : (a b c : ℕ) → round_in a ≡ round_in b
    → Has c (round_in a) (shut_in a || shut_in b) (bit_or (bits_in a) (bits_in b)) → IsLeastAbove a b c
least_both a b c same has = record {
  first = inr (record {
    round = sym has.round;
    bits = subst (AreIn (bits_in a)) (sym has.bits) (or-first (bits_in a) (bits_in b));
    shut = λ s. has.shut ∙ or_left (shut_in a) (shut_in b) s;
  });
  second = inr (record {
    round = sym same ∙ sym has.round;
    bits = subst (AreIn (bits_in b)) (sym has.bits) (or-second (bits_in a) (bits_in b));
    shut = λ s. has.shut ∙ or_right (shut_in a) (shut_in b) s;
  });
  least = λ d first second. below_all a b c d same has first second;
}

-- the join is the least word above both
pub least : (a b : ℕ) → IsLeastAbove a b (join_of a b)
least a b = elim (cases_order (round_in a) (round_in b)) [
  | inl same ↦ rw (join_both a b same) (least_both a b _ same (made _ _ _ (both_small a b)))
  | inr other ↦ elim other [
    | inl less ↦ rw (join_second a b less) (record { first = inl less; second = reflexive b; least = λ d x y. y })
    | inr more ↦ rw (join_first a b more) (record { first = reflexive a; second = inl more; least = λ d x y. x })
  ]
]

-- the join of two words is a word
word : (a b : ℕ) → IsWord a → IsWord b → IsWord (join_of a b)
word a b first second = elim (cases_order (round_in a) (round_in b)) [
  | inl same ↦ rw (join_both a b same) (fits _ _ _ (limits a first).0 (both_small a b))
  | inr other ↦ elim other [
    | inl less ↦ rw (join_second a b less) second
    | inr more ↦ rw (join_first a b more) first
  ]
]

-- the join of two words is a word, and the least above both
pub joins : IsJoin
joins = record { word = word; least = least }
