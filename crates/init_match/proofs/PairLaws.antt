-- The list of pairs has all pairs, in the order of their later calls: by induction over the calls, each of which
-- completes at most one pair, with itself as the later call.
use Rattle.std.proofs.Common.{◌≡◌, ◌⊎◌, ℕ, zero, suc, ◌+◌, ◌<◌, ◌≤◌, Some, None, Option, List, [], ◌∷◌, ◌++◌, length, refl, ap, sym, subst, ◌∙◌, arith, inl, inr, append_assoc, length-append}
use Rattle.std.specs.List.{slice_get}
use Rattle.std.specs.Option.{option_map, option_to_list}
use Rattle.std.proofs.lemmas.Option.{slice_get_within}
use Rattle.part_geometry.specs.declared.answers.Side.{Side}
use Rattle.part_geometry.specs.declared.answers.Side.TheVariants.{SendSide, RecvSide}
use Rattle.init_match.specs.declared.keys.Call.{Call}
use Rattle.init_match.specs.Calls.{of_key, facing}
use Rattle.init_match.specs.Matching.{Pair, ArePaired, AreThePairs, turn_of, partner_before, pair_with, completed_by, pairs_after, pairs_of, later_slot}
use Rattle.init_match.proofs.Placing.{stands_at}
use Rattle.init_match.proofs.PairFacts.{append_none}
use Rattle.init_match.proofs.Pairing.{paired_stays, completed_paired, paired_cases}

-- an element of a list behind an option is the option's, or one of the list
first_or_later : {X : Type 0} (o : Option X) (xs : List X) (n : ℕ) (x : X) → slice_get (option_to_list o ++ xs) n ≡ Some x
    → ((o ≡ Some x) × (n ≡ 0)) ⊎ ((m : ℕ) × (slice_get xs m ≡ Some x) × (n ≡ length (option_to_list o) + m))
first_or_later None xs n x is = inr (n, is, (let z : n ≡ 0 + n = omega arith in z))
first_or_later (Some y) xs zero x is = inl (is, refl)
first_or_later (Some y) xs (suc n) x is = inr (n, is, (let z : suc n ≡ 1 + n = omega arith in z))

-- an element of the list is there
later_get : {X : Type 0} (o : Option X) (xs : List X) (m : ℕ) (x : X) → slice_get xs m ≡ Some x → (n : ℕ) × (slice_get (option_to_list o ++ xs) n ≡ Some x)
later_get None xs m x is = (m, is)
later_get (Some y) xs m x is = (suc m, is)

-- and so is the option's
first_get : {X : Type 0} (o : Option X) (xs : List X) (x : X) → o ≡ Some x → (n : ℕ) × (slice_get (option_to_list o ++ xs) n ≡ Some x)
first_get None xs x is = cc
first_get (Some y) xs x is = (0, is)

-- each pair is one of the calls before, or is completed later
all_after : (before rest : List Call) (p : Pair) → ArePaired (before ++ rest) p → ArePaired before p ⊎ ((n : ℕ) × (slice_get (pairs_after before rest) n ≡ Some p))
all_after before [] p h = inl (subst (λ xs. ArePaired xs p) (sym (append_none before)) h)
all_after before (c ∷ rest) p h =
    elim (all_after (before ++ c ∷ []) rest p (subst (λ xs. ArePaired xs p) (sym (append_assoc before (c ∷ []) rest)) h)) [
      | inr later ↦ inr (later_get (completed_by before c) (pairs_after (before ++ c ∷ []) rest) later.0 p later.1)
      | inl here ↦ elim (paired_cases before c p here) [
        | inl old ↦ inl old
        | inr new ↦ inr (first_get (completed_by before c) (pairs_after (before ++ c ∷ []) rest) p new)
      ]
    ]

-- each pair that is completed is one of all the calls
only_after : (before rest : List Call) (n : ℕ) (p : Pair) → slice_get (pairs_after before rest) n ≡ Some p → ArePaired (before ++ rest) p
only_after before [] n p is = cc
only_after before (c ∷ rest) n p is =
    elim (first_or_later (completed_by before c) (pairs_after (before ++ c ∷ []) rest) n p is) [
      | inl first ↦ subst (λ xs. ArePaired xs p) (append_assoc before (c ∷ []) rest) (paired_stays (before ++ c ∷ []) rest p (completed_paired before c p first.0))
      | inr later ↦ subst (λ xs. ArePaired xs p) (append_assoc before (c ∷ []) rest) (only_after (before ++ c ∷ []) rest later.0 p later.1)
    ]

-- an option that has a value after a function had one before
some_pair : {A B : Type 0} (f : A → B) (o : Option A) (b : B) → option_map f o ≡ Some b → (a : A) × (o ≡ Some a) × (f a ≡ b)
some_pair f None b is = cc
some_pair f (Some a) b is = (a, refl, cc)

-- where the partner stands before a call, the call is the later one of their pair
by_side : (side : Side) (own other : ℕ × Call) → other.0 < own.0 → later_slot (pair_with side own other) ≡ own.0
by_side SendSide own other less = omega arith
by_side RecvSide own other less = omega arith

-- the later call of a completed pair is the one that completes it
completed_later : (before : List Call) (c : Call) (p : Pair) → completed_by before c ≡ Some p → later_slot p ≡ length before
completed_later before c p is =
    let found = some_pair (pair_with c.side (length before, c)) (partner_before before c) p is in
    let there = stands_at (facing c.side) c.key before (turn_of before c) found.0 found.1 in
    let less = slice_get_within before found.0.0 found.0.1 there.0 in
    ap later_slot (sym found.2) ∙ by_side c.side (length before, c) found.0 less

-- a pair that is completed later has its later call behind the calls before
low_after : (before rest : List Call) (n : ℕ) (p : Pair) → slice_get (pairs_after before rest) n ≡ Some p → length before ≤ later_slot p
low_after before [] n p is = cc
low_after before (c ∷ rest) n p is =
    elim (first_or_later (completed_by before c) (pairs_after (before ++ c ∷ []) rest) n p is) [
      | inl first ↦ let e = completed_later before c p first.0 in omega arith
      | inr later ↦
          let e = low_after (before ++ c ∷ []) rest later.0 p later.1 in
          let size = length-append before (c ∷ []) in omega arith
    ]

-- pairs stand in the order of their later calls
ordered_after : (before rest : List Call) (m n : ℕ) (p q : Pair) → m < n → slice_get (pairs_after before rest) m ≡ Some p → slice_get (pairs_after before rest) n ≡ Some q
    → later_slot p < later_slot q
ordered_after before [] m n p q less is_p is_q = cc
ordered_after before (c ∷ rest) m n p q less is_p is_q =
    elim (first_or_later (completed_by before c) (pairs_after (before ++ c ∷ []) rest) n q is_q) [
      | inl first ↦ let z = first.1 in absurd (omega arith)
      | inr later ↦ elim (first_or_later (completed_by before c) (pairs_after (before ++ c ∷ []) rest) m p is_p) [
        | inl here ↦
            let e = completed_later before c p here.0 in
            let low = low_after (before ++ c ∷ []) rest later.0 q later.1 in
            let size = length-append before (c ∷ []) in omega arith
        | inr both ↦
            let a = later.2 in let b = both.2 in
            ordered_after (before ++ c ∷ []) rest both.0 later.0 p q (omega arith) both.1 later.1
      ]
    ]

-- without calls there is no pair
nothing : (p : Pair) → ArePaired [] p → ⊥
unfolding of_key
nothing p h = none h.send
  where
    none : ◌≡◌ {A = Option (ℕ × Call)} None (Some p.send) → ⊥
    none is = cc

-- the list of pairs has all pairs and nothing else, in the order of their later calls
pub the_pairs : AreThePairs
unfolding pairs_of
the_pairs calls = record {
  all = λ p h. elim (all_after [] calls p h) [
    | inl none ↦ absurd (nothing p none)
    | inr there ↦ there
  ];
  only = λ n p is. only_after [] calls n p is;
  ordered = λ m n p q less is_p is_q. ordered_after [] calls m n p q less is_p is_q;
}
