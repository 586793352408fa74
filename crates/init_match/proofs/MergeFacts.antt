-- Merges: the calls of a side and a key come in the order of their rank's list, as one rank alone makes them; and a sum
-- over all calls is the same in each merge. Both by induction over the merge.
use Rattle.std.proofs.Common.{◌≡◌, ℕ, zero, suc, ◌+◌, ◌-◌, ◌≤◌, true, false, Some, None, Option, List, [], ◌∷◌, map, get_or, set, refl, ap, sym, subst, ◌∙◌, arith, inl, inr}
use Rattle.std.specs.List.{slice_get, filter, enumerate_from, sum_by}
use Rattle.std.specs.Option.{option_map}
use Rattle.std.proofs.lemmas.Bool.{cases_Bool, cases_eq}
use Rattle.std.proofs.lemmas.List.{get_or-set_same, get_or-set_other}
use Rattle.std.proofs.lemmas.List.Sums.{sum_by-cons, sum_by-set}
use Rattle.std.proofs.lemmas.Option.{slice_get-map, slice_get_within, get_or_from_slice_get}
use Rattle.part_geometry.specs.declared.answers.Side.{Side}
use Rattle.init_match.specs.declared.keys.Key.{Key}
use Rattle.init_match.specs.declared.keys.Call.{Call}
use Rattle.init_match.specs.Calls.{is_of, of_key}
use Rattle.init_match.specs.Merges.{Named, owner, AreOwn, IsMerge}
use Rattle.init_match.proofs.Pairing.{own_parts}

-- the calls of a side and a key
abbrev pub group : Side → Key → List Named → List Named
group s q xs = filter (λ n. is_of s q n.call) xs

-- a call of the side and key is the first of them
group_here : (s : Side) (q : Key) (c : Named) (xs : List Named) → is_of s q c.call ≡ true → group s q (c ∷ xs) ≡ c ∷ group s q xs
group_here s q c xs here = rw here refl

-- another call is none of them
group_other : (s : Side) (q : Key) (c : Named) (xs : List Named) → is_of s q c.call ≡ false → group s q (c ∷ xs) ≡ group s q xs
group_other s q c xs other = rw other refl

-- without the first call of a rank's list, each list is still its rank's own
pub own_rest : (lists : List (List Named)) (rank : ℕ) (c : Named) (rest : List Named) → AreOwn lists → slice_get lists rank ≡ Some (c ∷ rest) → AreOwn (set lists rank rest)
own_rest lists rank c rest own is k n d there =
    let inside = slice_get_within lists rank (c ∷ rest) is in
    elim (cases_eq k rank) [
      | inl same ↦
          let here : slice_get rest n ≡ Some d = ap (λ l. slice_get l n) (sym (ap (λ j. get_or (set lists rank rest) j []) same ∙ get_or-set_same lists rank rest [] inside)) ∙ there in
          let front : get_or lists k [] ≡ c ∷ rest = ap (λ j. get_or lists j []) same ∙ get_or_from_slice_get lists rank (c ∷ rest) [] is in
          own k (suc n) d (ap (λ l. slice_get l (suc n)) front ∙ here)
      | inr other ↦ own k n d (ap (λ l. slice_get l n) (sym (get_or-set_other lists rank k rest [] other)) ∙ there)
    ]

-- in a merge, the calls of a side and a key are those in the list of the rank that makes them, in that order
pub merge_group : (lists : List (List Named)) (xs : List Named) (s : Side) (q : Key) → AreOwn lists → IsMerge lists xs → group s q xs ≡ group s q (get_or lists (owner s q) [])
merge_group lists [] s q own empty = ap (group s q) (sym (empty (owner s q)))
merge_group lists (c ∷ xs) s q own (rank, rest, is, more) =
    let inside = slice_get_within lists rank (c ∷ rest) is in
    let front : get_or lists rank [] ≡ c ∷ rest = get_or_from_slice_get lists rank (c ∷ rest) [] is in
    let back : get_or (set lists rank rest) rank [] ≡ rest = get_or-set_same lists rank rest [] inside in
    let after = merge_group (set lists rank rest) xs s q (own_rest lists rank c rest own is) more in
    elim (cases_Bool (is_of s q c.call)) [
      | inl here ↦
          let parts = own_parts s q c.call here in
          let mine : owner s q ≡ rank = ap (λ t. owner t q) parts.0 ∙ ap (owner c.call.side) parts.1 ∙ own rank 0 c (ap (λ l. slice_get l 0) front) in
          group_here s q c xs here
          ∙ ap (λ ys. c ∷ ys) (after ∙ ap (λ r. group s q (get_or (set lists rank rest) r [])) mine ∙ ap (group s q) back)
          ∙ sym (ap (λ r. group s q (get_or lists r [])) mine ∙ ap (group s q) front ∙ group_here s q c rest here)
      | inr other ↦ group_other s q c xs other ∙ after ∙ elim (cases_eq (owner s q) rank) [
        | inl mine ↦
            ap (λ r. group s q (get_or (set lists rank rest) r [])) mine ∙ ap (group s q) back
            ∙ sym (ap (λ r. group s q (get_or lists r [])) mine ∙ ap (group s q) front ∙ group_other s q c rest other)
        | inr apart ↦ ap (group s q) (get_or-set_other lists rank (owner s q) rest [] apart)
      ]
    ]

-- where nothing is left of the lists, the sum is 0
none_left : (f : Named → ℕ) (lists : List (List Named)) → ((r : ℕ) → get_or lists r [] ≡ []) → sum_by (sum_by f) lists ≡ 0
none_left f [] empty = refl
none_left f (l ∷ lists) empty = sum_by-cons (sum_by f) l lists ∙ ap (λ m. sum_by f m + sum_by (sum_by f) lists) (empty 0) ∙ ap (λ n. 0 + n) (none_left f lists (λ r. empty (suc r)))

-- a sum over a merge is the sum over the lists of their sums
pub merge_sum : (f : Named → ℕ) (lists : List (List Named)) (xs : List Named) → IsMerge lists xs → sum_by f xs ≡ sum_by (sum_by f) lists
merge_sum f lists [] empty = sym (none_left f lists empty)
merge_sum f lists (c ∷ xs) (rank, rest, is, more) =
    let inside = slice_get_within lists rank (c ∷ rest) is in
    let front : get_or lists rank [] ≡ c ∷ rest = get_or_from_slice_get lists rank (c ∷ rest) [] is in
    let after = merge_sum f (set lists rank rest) xs more in
    let change = sum_by-set (sum_by f) lists rank rest [] inside in
    let had : sum_by f (get_or lists rank []) ≡ f c + sum_by f rest = ap (sum_by f) front ∙ sum_by-cons f c rest in
    let all = sum_by-cons f c xs in
    omega arith

-- the calls of a side and a key, with their slots
abbrev named_from : ℕ → Side → Key → List Named → List (ℕ × Named)
named_from n s q xs = filter (λ (e : ℕ × Named). is_of s q e.1.call) (enumerate_from n xs)

-- the calls of a side and a key with their slots are the named ones, without their names
slots_named : (n : ℕ) (s : Side) (q : Key) (xs : List Named)
    → filter (λ (e : ℕ × Call). is_of s q e.1) (enumerate_from n (map (λ c. c.call) xs)) ≡ map (λ (e : ℕ × Named). (e.0, e.1.call)) (named_from n s q xs)
slots_named n s q [] = refl
slots_named n s q (c ∷ xs) =
    let rest = slots_named (n + 1) s q xs in
    elim (cases_Bool (is_of s q c.call)) [
      | inl here ↦ rw here (ap (λ es. (n, c.call) ∷ es) rest)
      | inr other ↦ rw other rest
    ]

-- without their slots they are the calls of that side and key in order
group_named : (n : ℕ) (s : Side) (q : Key) (xs : List Named) → group s q xs ≡ map (λ (e : ℕ × Named). e.1) (named_from n s q xs)
group_named n s q [] = refl
group_named n s q (c ∷ xs) =
    let rest = group_named (n + 1) s q xs in
    elim (cases_Bool (is_of s q c.call)) [
      | inl here ↦ rw here (ap (λ es. c ∷ es) rest)
      | inr other ↦ rw other rest
    ]

-- numbered from n on, each stands in the list at its number less n
named_there : (n : ℕ) (s : Side) (q : Key) (xs : List Named) (k : ℕ) (e : ℕ × Named) → slice_get (named_from n s q xs) k ≡ Some e → (n ≤ e.0) × (slice_get xs (e.0 - n) ≡ Some e.1)
named_there n s q [] k e is = cc
named_there n s q (c ∷ xs) k e is =
    elim (cases_Bool (is_of s q c.call)) [
      | inr other ↦ later (named_there (n + 1) s q xs k e (rw other at is))
      | inl here ↦ first k (λ j is. named_there (n + 1) s q xs j e is) (rw here at is)
    ]
  where
    later : (n + 1 ≤ e.0) × (slice_get xs (e.0 - (n + 1)) ≡ Some e.1) → (n ≤ e.0) × (slice_get (c ∷ xs) (e.0 - n) ≡ Some e.1)
    later h = let low = h.0 in (omega arith, ap (slice_get (c ∷ xs)) (let z : e.0 - n ≡ suc (e.0 - (n + 1)) = omega arith in z) ∙ h.1)

    first : (k : ℕ) → ((j : ℕ) → slice_get (named_from (n + 1) s q xs) j ≡ Some e → (n + 1 ≤ e.0) × (slice_get xs (e.0 - (n + 1)) ≡ Some e.1))
        → slice_get ((n, c) ∷ named_from (n + 1) s q xs) k ≡ Some e → (n ≤ e.0) × (slice_get (c ∷ xs) (e.0 - n) ≡ Some e.1)
    first zero rest is =
        let same : (n, c) ≡ e = cc in
        subst (λ e. (n ≤ e.0) × (slice_get (c ∷ xs) (e.0 - n) ≡ Some e.1)) same (omega arith, ap (slice_get (c ∷ xs)) (let z : n - n ≡ 0 = omega arith in z))
    first (suc k) rest is = later (rest k is)

some_of : {A B : Type 0} (f : A → B) (o : Option A) (b : B) → option_map f o ≡ Some b → (a : A) × (o ≡ Some a) × (f a ≡ b)
some_of f None b is = cc
some_of f (Some a) b is = (a, refl, cc)

-- a named call, the slot in which it stands, and the call there
pub record IsNamed (xs : List Named) (n : Named) (e : ℕ × Call) : Type 0 where
  pub there : slice_get xs e.0 ≡ Some n
  pub call : n.call ≡ e.1

-- numbered from 0 on, each stands at its number
named_is : (s : Side) (q : Key) (xs : List Named) (k : ℕ) (a : ℕ × Named) → slice_get (named_from 0 s q xs) k ≡ Some a → slice_get xs a.0 ≡ Some a.1
named_is s q xs k a is = ap (slice_get xs) (let z : a.0 ≡ a.0 - 0 = omega arith in z) ∙ (named_there 0 s q xs k a is).1

-- the k-th call of a side and a key has a name, by which it is the k-th named call of them
pub slot_named : (s : Side) (q : Key) (xs : List Named) (k : ℕ) (e : ℕ × Call) → slice_get (of_key s q (map (λ c. c.call) xs)) k ≡ Some e
    → (n : Named) × (slice_get (group s q xs) k ≡ Some n) × IsNamed xs n e
unfolding of_key
slot_named s q xs k e is =
    let f = some_of (λ (e : ℕ × Named). (e.0, e.1.call)) (slice_get (named_from 0 s q xs) k) e
    (sym (slice_get-map (λ (e : ℕ × Named). (e.0, e.1.call)) (named_from 0 s q xs) k) ∙ ap (λ es. slice_get es k) (sym (slots_named 0 s q xs)) ∙ is) in
    let in_group = ap (λ es. slice_get es k) (group_named 0 s q xs) ∙ slice_get-map (λ (e : ℕ × Named). e.1) (named_from 0 s q xs) k ∙ ap (option_map (λ (e : ℕ × Named). e.1)) f.1 in
    (f.0.1, in_group, record { there = ap (slice_get xs) (sym (ap (λ (p : ℕ × Call). p.0) f.2)) ∙ named_is s q xs k f.0 f.1; call = ap (λ (p : ℕ × Call). p.1) f.2 })

-- and the k-th named call has a slot, in which it is the k-th call of them
pub named_slot : (s : Side) (q : Key) (xs : List Named) (k : ℕ) (n : Named) → slice_get (group s q xs) k ≡ Some n
    → (e : ℕ × Call) × (slice_get (of_key s q (map (λ c. c.call) xs)) k ≡ Some e) × IsNamed xs n e
unfolding of_key
named_slot s q xs k n is =
    let f = some_of (λ (e : ℕ × Named). e.1) (slice_get (named_from 0 s q xs) k) n
    (sym (slice_get-map (λ (e : ℕ × Named). e.1) (named_from 0 s q xs) k) ∙ ap (λ es. slice_get es k) (sym (group_named 0 s q xs)) ∙ is) in
    let slot = ap (λ es. slice_get es k) (slots_named 0 s q xs) ∙ slice_get-map (λ (e : ℕ × Named). (e.0, e.1.call)) (named_from 0 s q xs) k ∙ ap (option_map (λ (e : ℕ × Named). (e.0, e.1.call))) f.1 in
    ((f.0.0, f.0.1.call), slot, record { there = named_is s q xs k f.0 f.1 ∙ ap Some f.2; call = ap (λ (m : Named). m.call) (sym f.2) })
