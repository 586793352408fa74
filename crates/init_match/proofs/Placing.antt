-- The calls of a side and a key, with their slots: where they stand in the list of calls, by induction over it, and
-- what that says of turns and partners.
use Rattle.std.proofs.Common.{Bor, ltb, ◌≡◌, ℕ, zero, suc, ◌+◌, ◌-◌, ◌≤◌, true, cond, Some, None, Option, List, [], ◌∷◌, ◌++◌, length, get_or, take, map, refl, ap, sym, subst, ◌∙◌, arith, inl, inr, append_assoc}
use Rattle.std.specs.List.{enumerate_from, filter, slice_get}
use Rattle.std.specs.Option.{option_map, option_copied, is_some, IfSome}
use Rattle.std.proofs.lemmas.Bool.{cases_Bool, ltb-true, ltb-false}
use Rattle.std.proofs.lemmas.List.{map-append}
use Rattle.std.proofs.lemmas.List.Elements.{filter-append}
use Rattle.std.proofs.lemmas.Option.{slice_get-map, slice_get_past, slice_get_read}
use Rattle.part_geometry.specs.declared.answers.Side.{Side}
use Rattle.init_match.specs.declared.keys.Key.{Key}
use Rattle.init_match.specs.declared.keys.Call.{Call}
use Rattle.init_match.specs.Calls.{is_of, of_key, slots_of, facing}
use Rattle.init_match.specs.Slots.{appended}
use Rattle.init_match.specs.Matching.{turn_of, partner_before, partner_of}
use Rattle.init_match.specs.Ledger.{turns_after}

-- one element more has the next number
enumerate-more : {X : Type 0} (n : ℕ) (xs : List X) (x : X) → enumerate_from n (xs ++ x ∷ []) ≡ enumerate_from n xs ++ (n + length xs, x) ∷ []
enumerate-more n [] x = ap (λ m. (m, x) ∷ []) (let z : n ≡ n + 0 = omega arith in z)
enumerate-more n (y ∷ ys) x =
    ap (λ es. (n, y) ∷ es) (enumerate-more (n + 1) ys x ∙ ap (λ m. enumerate_from (n + 1) ys ++ (m, x) ∷ []) (let z : n + 1 + length ys ≡ n + suc (length ys) = omega arith in z))

-- of one call all is kept where it is of the side and key, and else nothing
filter-one : (s : Side) (q : Key) (n : ℕ) (c : Call) → filter (λ (e : ℕ × Call). is_of s q e.1) ((n, c) ∷ []) ≡ cond (is_of s q c) ((n, c) ∷ []) []
filter-one s q n c =
    elim (cases_Bool (is_of s q c)) [
      | inl here ↦ rw here refl
      | inr other ↦ rw other refl
    ]

-- one call more is the last of its side and key, and none of another
pub of_key-more : (s : Side) (q : Key) (calls : List Call) (c : Call) → of_key s q (calls ++ c ∷ []) ≡ of_key s q calls ++ cond (is_of s q c) ((length calls, c) ∷ []) []
unfolding of_key
of_key-more s q calls c =
    ap (filter (λ e. is_of s q e.1)) (enumerate-more 0 calls c) ∙ filter-append (λ e. is_of s q e.1) (enumerate_from 0 calls) ((0 + length calls, c) ∷ [])
    ∙ ap (λ es. filter (λ e. is_of s q e.1) (enumerate_from 0 calls) ++ es) (filter-one s q (0 + length calls) c)
    ∙ ap (λ n. filter (λ e. is_of s q e.1) (enumerate_from 0 calls) ++ cond (is_of s q c) ((n, c) ∷ []) []) (let z : 0 + length calls ≡ length calls = omega arith in z)

-- and its slot is the last of theirs
pub slots_of-more : (s : Side) (q : Key) (calls : List Call) (c : Call) → slots_of s q (calls ++ c ∷ []) ≡ appended (is_of s q c) (length calls) (slots_of s q calls)
slots_of-more s q calls c =
    elim (cases_Bool (is_of s q c)) [
      | inl here ↦
          ap (map (λ e. e.0)) (of_key-more s q calls c ∙ ap (λ b. of_key s q calls ++ cond b ((length calls, c) ∷ []) []) here)
          ∙ map-append (λ (e : ℕ × Call). e.0) (of_key s q calls) ((length calls, c) ∷ []) ∙ sym (ap (λ b. appended b (length calls) (slots_of s q calls)) here)
      | inr other ↦
          ap (map (λ e. e.0)) (of_key-more s q calls c ∙ ap (λ b. of_key s q calls ++ cond b ((length calls, c) ∷ []) []) other)
          ∙ map-append (λ (e : ℕ × Call). e.0) (of_key s q calls) [] ∙ append_none (slots_of s q calls) ∙ sym (ap (λ b. appended b (length calls) (slots_of s q calls)) other)
    ]
  where
    append_none : (xs : List ℕ) → xs ++ [] ≡ xs
    append_none [] = refl
    append_none (x ∷ xs) = ap (λ ys. x ∷ ys) (append_none xs)

-- a call of a side and a key stands in its slot
pub record StandsAt (n : ℕ) (calls : List Call) (s : Side) (q : Key) (e : ℕ × Call) : Type 0 where
  pub low : n ≤ e.0
  pub there : slice_get calls (e.0 - n) ≡ Some e.1
  pub of : is_of s q e.1 ≡ true

-- with a call before the others, each stands one further on
later : (n : ℕ) (x : Call) (xs : List Call) (s : Side) (q : Key) (e : ℕ × Call) → StandsAt (n + 1) xs s q e → StandsAt n (x ∷ xs) s q e
later n x xs s q e h =
    let low = h.low in
    record { low = omega arith; there = ap (slice_get (x ∷ xs)) (let z : e.0 - n ≡ suc (e.0 - (n + 1)) = omega arith in z) ∙ h.there; of = h.of }

-- a call among the numbered ones of a side and a key is of them, and stands in the list at its number
pub stands : (s : Side) (q : Key) (n : ℕ) (calls : List Call) (k : ℕ) (e : ℕ × Call) → slice_get (filter (λ e. is_of s q e.1) (enumerate_from n calls)) k ≡ Some e → StandsAt n calls s q e
stands s q n [] k e is = cc
stands s q n (x ∷ xs) k e is =
    elim (cases_Bool (is_of s q x)) [
      | inr other ↦ later n x xs s q e (stands s q (n + 1) xs k e (rw other at is))
      | inl here ↦ first k (λ j. stands s q (n + 1) xs j e) (rw here at is) here
    ]
  where
    first : (k : ℕ) → ((j : ℕ) → slice_get (filter (λ e. is_of s q e.1) (enumerate_from (n + 1) xs)) j ≡ Some e → StandsAt (n + 1) xs s q e) → slice_get ((n, x) ∷ filter (λ e. is_of s q e.1) (enumerate_from (n + 1) xs)) k ≡ Some e → is_of s q x ≡ true → StandsAt n (x ∷ xs) s q e
    first zero rest is here =
        let same : (n, x) ≡ e = cc in
        subst (StandsAt n (x ∷ xs) s q) same (record { low = omega arith; there = ap (slice_get (x ∷ xs)) (let z : n - n ≡ 0 = omega arith in z); of = here })
    first (suc k) rest is here = later n x xs s q e (rest k is)

-- so a call of a side and a key stands in its slot
pub stands_at : (s : Side) (q : Key) (calls : List Call) (k : ℕ) (e : ℕ × Call) → slice_get (of_key s q calls) k ≡ Some e → (slice_get calls e.0 ≡ Some e.1) × (is_of s q e.1 ≡ true)
unfolding of_key
stands_at s q calls k e is =
    let h = stands s q 0 calls k e is in
    (ap (slice_get calls) (let z : e.0 ≡ e.0 - 0 = omega arith in z) ∙ h.there, h.of)

-- an option that has a value after a function had one before
some_of : {A B : Type 0} (f : A → B) (o : Option A) (b : B) → option_map f o ≡ Some b → (a : A) × (o ≡ Some a) × (f a ≡ b)
some_of f None b is = cc
some_of f (Some a) b is = (a, refl, cc)

-- the slot at a call's turn in the other side's slots is that of the partner
pub partner_there : (calls : List Call) (c : Call) (slot : ℕ) → slice_get (slots_of (facing c.side) c.key calls) (turn_of calls c) ≡ Some slot
    → (x : Call) × (slice_get calls slot ≡ Some x) × (partner_before calls c ≡ Some (slot, x))
partner_there calls c slot is =
    let found = some_of (λ (e : ℕ × Call). e.0) _ slot (sym (slice_get-map (λ (e : ℕ × Call). e.0) (of_key (facing c.side) c.key calls) (turn_of calls c)) ∙ is) in
    let h = stands_at (facing c.side) c.key calls (turn_of calls c) found.0 found.1 in
    (found.0.1, ap (slice_get calls) (sym found.2) ∙ h.0, found.1 ∙ ap (λ n. Some (n, found.0.1)) found.2)

-- where there is none, the call has no partner yet
pub partner_none : (calls : List Call) (c : Call) → slice_get (slots_of (facing c.side) c.key calls) (turn_of calls c) ≡ None → partner_before calls c ≡ None
partner_none calls c is = none_of (partner_before calls c) (sym (slice_get-map (λ (e : ℕ × Call). e.0) (of_key (facing c.side) c.key calls) (turn_of calls c)) ∙ is)
  where
    none_of : (o : Option (ℕ × Call)) → option_map (λ e. e.0) o ≡ None → o ≡ None
    none_of None is = refl
    none_of (Some e) is = cc

-- one call more has the turn that it finds
pub turns_more : (before calls : List Call) (c : Call) → turns_after before (calls ++ c ∷ []) ≡ turns_after before calls ++ turn_of (before ++ calls) c ∷ []
turns_more before [] c = ap (λ xs. turn_of xs c ∷ []) (none before)
  where
    none : (xs : List Call) → xs ≡ xs ++ []
    none [] = refl
    none (x ∷ xs) = ap (λ ys. x ∷ ys) (none xs)
turns_more before (d ∷ calls) c =
    ap (λ ts. turn_of before d ∷ ts) (turns_more (before ++ d ∷ []) calls c ∙ ap (λ xs. turns_after (before ++ d ∷ []) calls ++ turn_of xs c ∷ []) (append_assoc before (d ∷ []) calls))

-- each call has a turn
pub turns_many : (before calls : List Call) → length (turns_after before calls) ≡ length calls
turns_many before [] = refl
turns_many before (c ∷ calls) = ap suc (turns_many (before ++ c ∷ []) calls)

-- which is that among the calls before it
pub turn_at : (before calls : List Call) (i : ℕ) (c : Call) → slice_get calls i ≡ Some c → get_or (turns_after before calls) i 0 ≡ turn_of (before ++ take i calls) c
turn_at before [] i c is = cc
turn_at before (d ∷ calls) zero c is = let same : d ≡ c = cc in ap (turn_of before) same ∙ ap (λ xs. turn_of xs c) (none before)
  where
    none : (xs : List Call) → xs ≡ xs ++ []
    none [] = refl
    none (x ∷ xs) = ap (λ ys. x ∷ ys) (none xs)
turn_at before (d ∷ calls) (suc i) c is = turn_at (before ++ d ∷ []) calls i c is ∙ ap (λ xs. turn_of xs c) (append_assoc before (d ∷ []) (take i calls))

-- of a side and a key there are no more calls than in all
pub few_turns : (s : Side) (q : Key) (calls : List Call) → length (of_key s q calls) ≤ length calls
unfolding of_key
few_turns s q calls = few 0 calls
  where
    few : (n : ℕ) (calls : List Call) → length (filter (λ e. is_of s q e.1) (enumerate_from n calls)) ≤ length calls
    few n [] = omega arith
    few n (c ∷ calls) =
        let h = few (n + 1) calls in
        elim (cases_Bool (is_of s q c)) [
          | inl here ↦ rw here (omega arith)
          | inr other ↦ rw other (omega arith)
        ]

-- the partner of a call that stands in a slot
pub partner_at : (calls : List Call) (slot : ℕ) (c : Call) → slice_get calls slot ≡ Some c
    → partner_of calls slot ≡ slice_get (slots_of (facing c.side) c.key calls) (turn_of (take slot calls) c)
unfolding partner_of
partner_at calls slot c is = rw is (sym (slice_get-map (λ (e : ℕ × Call). e.0) (of_key (facing c.side) c.key calls) (turn_of (take slot calls) c)))

-- a slot behind the last call has no partner
pub partner_past : (calls : List Call) (slot : ℕ) → slice_get calls slot ≡ None → partner_of calls slot ≡ None
unfolding partner_of
partner_past calls slot is = rw is refl

-- what `get` gives is the element at a place of the list, if there is one
pub got : (xs : List ℕ) (i : ℕ) (r : Option (Bor ℕ)) → is_some r ≡ ltb i (length xs) → IfSome r (λ x. x.now ≡ get_or xs i x.now) → option_copied r ≡ slice_get xs i
got xs i None inside is = sym (slice_get_past xs i (ltb-false i (length xs) (sym inside)))
got xs i (Some x) inside is = sym (slice_get_read xs (length xs) i x.now refl (ltb-true i (length xs) (sym inside)) is)
