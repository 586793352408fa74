-- Which pairs a list of calls has, and which one more call adds: it is the last of its side and key, so it makes a pair
-- exactly where the other side has a call of its turn.
use Rattle.std.proofs.Common.{◌≡◌, ◌⊎◌, ℕ, zero, suc, ◌+◌, Bool, true, false, cond, ◌&&◌, Some, None, Option, List, [], ◌∷◌, ◌++◌, length, refl, ap, sym, subst, ◌∙◌, arith, inl, inr}
use Rattle.std.specs.List.{slice_get, filter, enumerate_from}
use Rattle.std.specs.Option.{option_map}
use Rattle.std.proofs.lemmas.Bool.{and_parts, false≢true}
use Rattle.std.proofs.lemmas.List.Elements.{filter-append}
use Rattle.part_geometry.specs.declared.answers.Side.{Side}
use Rattle.part_geometry.specs.declared.answers.Side.TheVariants.{SendSide, RecvSide}
use Rattle.init_match.specs.declared.keys.Key.{Key}
use Rattle.init_match.specs.declared.keys.Call.{Call}
use Rattle.init_match.specs.Calls.{is_of, of_key, facing, same_side, same_key}
use Rattle.init_match.specs.Matching.{Pair, ArePaired, turn_of, partner_before, pair_with, completed_by}
use Rattle.init_match.proofs.KeyFacts.{key-same, same-key}
use Rattle.init_match.proofs.Placing.{of_key-more}

-- what stands in a list stands there still with more behind
pub get_front : {X : Type 0} (xs ys : List X) (k : ℕ) (x : X) → slice_get xs k ≡ Some x → slice_get (xs ++ ys) k ≡ Some x
get_front [] ys k x is = cc
get_front (y ∷ xs) ys zero x is = is
get_front (y ∷ xs) ys (suc k) x is = get_front xs ys k x is

-- and the first of what is behind stands at its length
pub get_back : {X : Type 0} (xs : List X) (y : X) (ys : List X) → slice_get (xs ++ y ∷ ys) (length xs) ≡ Some y
get_back [] y ys = refl
get_back (x ∷ xs) y ys = get_back xs y ys

-- an element of a list with one more, where a test holds
pub last_or_before : {X : Type 0} (xs : List X) (b : Bool) (x : X) (k : ℕ) (e : X) → slice_get (xs ++ cond b (x ∷ []) []) k ≡ Some e
    → (slice_get xs k ≡ Some e) ⊎ ((k ≡ length xs) × (b ≡ true) × (x ≡ e))
last_or_before [] true x zero e is = inr (refl, refl, cc)
last_or_before [] true x (suc k) e is = cc
last_or_before [] false x k e is = cc
last_or_before (y ∷ xs) b x zero e is = inl is
last_or_before (y ∷ xs) b x (suc k) e is =
    elim (last_or_before xs b x k e is) [
      | inl before ↦ inl before
      | inr last ↦ inr (ap suc last.0, last.1, last.2)
    ]

-- sides that pass the test are the same
pub side-same : (a b : Side) → same_side a b ≡ true → a ≡ b
side-same SendSide SendSide e = refl
side-same RecvSide RecvSide e = refl
side-same SendSide RecvSide e = absurd (false≢true e)
side-same RecvSide SendSide e = absurd (false≢true e)

-- a side is the same as itself
same-side : (a : Side) → same_side a a ≡ true
same-side SendSide = refl
same-side RecvSide = refl

-- a call is of no other side and key than its own
pub own_parts : (s : Side) (q : Key) (c : Call) → is_of s q c ≡ true → (s ≡ c.side) × (q ≡ c.key)
own_parts s q c is = let h = and_parts (same_side s c.side) (same_key q c.key) is in (side-same s c.side h.0, key-same q c.key h.1)

-- and it is of its own
pub is_own : (c : Call) → is_of c.side c.key c ≡ true
is_own c = ap (λ b. b && same_key c.key c.key) (same-side c.side) ∙ same-key c.key

SendSide≢RecvSide : SendSide ≡ RecvSide → ⊥
SendSide≢RecvSide e = cc

-- the numbers of more elements go on where those of a list end
enumerate-append : {X : Type 0} (n : ℕ) (xs ys : List X) → enumerate_from n (xs ++ ys) ≡ enumerate_from n xs ++ enumerate_from (n + length xs) ys
enumerate-append n [] ys = ap (λ m. enumerate_from m ys) (let z : n ≡ n + 0 = omega arith in z)
enumerate-append n (x ∷ xs) ys =
    ap (λ es. (n, x) ∷ es) (enumerate-append (n + 1) xs ys ∙ ap (λ m. enumerate_from (n + 1) xs ++ enumerate_from m ys) (let z : n + 1 + length xs ≡ n + suc (length xs) = omega arith in z))

-- the calls of a side and a key, with more calls behind, are those before, and then those behind, with numbers that go
-- on
pub of_key-append : (s : Side) (q : Key) (xs ys : List Call) → of_key s q (xs ++ ys) ≡ of_key s q xs ++ filter (λ e. is_of s q e.1) (enumerate_from (0 + length xs) ys)
unfolding of_key
of_key-append s q xs ys = ap (filter (λ e. is_of s q e.1)) (enumerate-append 0 xs ys) ∙ filter-append (λ e. is_of s q e.1) (enumerate_from 0 xs) (enumerate_from (0 + length xs) ys)

-- the k-th of them stays the k-th
pub get_of_key : (s : Side) (q : Key) (xs ys : List Call) (k : ℕ) (e : ℕ × Call) → slice_get (of_key s q xs) k ≡ Some e → slice_get (of_key s q (xs ++ ys)) k ≡ Some e
get_of_key s q xs ys k e is = ap (λ es. slice_get es k) (of_key-append s q xs ys) ∙ get_front (of_key s q xs) _ k e is

-- a pair stays one
pub paired_stays : (xs ys : List Call) (p : Pair) → ArePaired xs p → ArePaired (xs ++ ys) p
paired_stays xs ys p h = record { key = h.key; turn = h.turn; send = get_of_key SendSide h.key xs ys h.turn p.send h.send; recv = get_of_key RecvSide h.key xs ys h.turn p.recv h.recv }

-- the last call is the one of its turn
pub last_own : (before : List Call) (c : Call) → slice_get (of_key c.side c.key (before ++ c ∷ [])) (turn_of before c) ≡ Some (length before, c)
last_own before c =
    ap (λ es. slice_get es (turn_of before c)) (of_key-more c.side c.key before c ∙ ap (λ b. of_key c.side c.key before ++ cond b ((length before, c) ∷ []) []) (is_own c))
    ∙ get_back (of_key c.side c.key before) (length before, c) []

-- an option that has a value after a function had one before
some_pair : {A B : Type 0} (f : A → B) (o : Option A) (b : B) → option_map f o ≡ Some b → (a : A) × (o ≡ Some a) × (f a ≡ b)
some_pair f None b is = cc
some_pair f (Some a) b is = (a, refl, cc)

-- a call and one of the other side that have the same turn of the key are paired
pub by_side : (side : Side) (key : Key) (calls : List Call) (own other : ℕ × Call) (k : ℕ) → slice_get (of_key side key calls) k ≡ Some own → slice_get (of_key (facing side) key calls) k ≡ Some other
    → ArePaired calls (pair_with side own other)
by_side SendSide key calls own other k o f = record { key = key; turn = k; send = o; recv = f }
by_side RecvSide key calls own other k o f = record { key = key; turn = k; send = f; recv = o }

-- the pair that a call completes is one of the calls with it
pub completed_paired : (before : List Call) (c : Call) (p : Pair) → completed_by before c ≡ Some p → ArePaired (before ++ c ∷ []) p
completed_paired before c p is =
    let found = some_pair (pair_with c.side (length before, c)) (partner_before before c) p is in
    subst (ArePaired (before ++ c ∷ [])) found.2
    (by_side c.side c.key (before ++ c ∷ []) (length before, c) found.0 (turn_of before c) (last_own before c) (get_of_key (facing c.side) c.key before (c ∷ []) (turn_of before c) found.0 found.1))

-- where the other side has a call of its turn, the call completes the pair with it
completes : (side : Side) (key : Key) (before : List Call) (c : Call) (other : ℕ × Call) → side ≡ c.side → key ≡ c.key
    → slice_get (of_key (facing side) key before) (length (of_key side key before)) ≡ Some other → completed_by before c ≡ Some (pair_with side (length before, c) other)
completes side key before c other is_side is_key found =
    let e : partner_before before c ≡ Some other =
    subst (λ s. slice_get (of_key (facing s) c.key before) (length (of_key s c.key before)) ≡ Some other) is_side
    (subst (λ q. slice_get (of_key (facing side) q before) (length (of_key side q before)) ≡ Some other) is_key found) in
    ap (option_map (pair_with c.side (length before, c))) e ∙ ap (λ s. Some (pair_with s (length before, c) other)) (sym is_side)

-- a pair of the calls with one more is one of the calls before, or the one that this call completes
pub paired_cases : (before : List Call) (c : Call) (p : Pair) → ArePaired (before ++ c ∷ []) p → ArePaired before p ⊎ (completed_by before c ≡ Some p)
paired_cases before c p h =
    let q = h.key in let k = h.turn in
    elim (last_or_before (of_key SendSide q before) (is_of SendSide q c) (length before, c) k p.send (ap (λ es. slice_get es k) (sym (of_key-more SendSide q before c)) ∙ h.send)) [
      | inl send ↦ elim (last_or_before (of_key RecvSide q before) (is_of RecvSide q c) (length before, c) k p.recv (ap (λ es. slice_get es k) (sym (of_key-more RecvSide q before c)) ∙ h.recv)) [
        | inl recv ↦ inl (record { key = q; turn = k; send = send; recv = recv })
        | inr last ↦
            let own = own_parts RecvSide q c last.1 in
            inr (completes RecvSide q before c p.send own.0 own.1 (ap (slice_get (of_key SendSide q before)) (sym last.0) ∙ send) ∙ ap (λ e. Some (record { send = p.send; recv = e })) last.2)
      ]
      | inr last ↦ elim (last_or_before (of_key RecvSide q before) (is_of RecvSide q c) (length before, c) k p.recv (ap (λ es. slice_get es k) (sym (of_key-more RecvSide q before c)) ∙ h.recv)) [
        | inl recv ↦
            let own = own_parts SendSide q c last.1 in
            inr (completes SendSide q before c p.recv own.0 own.1 (ap (slice_get (of_key RecvSide q before)) (sym last.0) ∙ recv) ∙ ap (λ e. Some (record { send = e; recv = p.recv })) last.2)
        | inr both ↦ absurd (SendSide≢RecvSide ((own_parts SendSide q c last.1).0 ∙ sym (own_parts RecvSide q c both.1).0))
      ]
    ]
