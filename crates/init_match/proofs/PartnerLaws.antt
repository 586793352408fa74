-- The partner of a slot is the other slot of its pair. A slot has one turn among those of its side and key, since their
-- slots ascend, and a pair is two of one turn.
use Rattle.std.proofs.Common.{◌≡◌, ◌⊎◌, ℕ, zero, suc, ◌+◌, ◌<◌, Some, None, Option, List, [], ◌∷◌, ◌++◌, length, take, refl, ap, sym, subst, ◌∙◌, arith, inl, inr, append_assoc}
use Rattle.std.specs.List.{slice_get, filter, enumerate_from}
use Rattle.std.specs.Option.{option_map}
use Rattle.std.proofs.lemmas.Bool.{cases_Bool, cases_lt}
use Rattle.std.proofs.lemmas.Option.{slice_get-map}
use Rattle.part_geometry.specs.declared.answers.Side.{Side}
use Rattle.part_geometry.specs.declared.answers.Side.TheVariants.{SendSide, RecvSide}
use Rattle.init_match.specs.declared.keys.Key.{Key}
use Rattle.init_match.specs.declared.keys.Call.{Call}
use Rattle.init_match.specs.Calls.{is_of, of_key, facing}
use Rattle.init_match.specs.Matching.{ArePartners, IsThePartner, pair_with, turn_of, partner_of}
use Rattle.init_match.proofs.Placing.{stands, stands_at, partner_at, partner_past}
use Rattle.init_match.proofs.Pairing.{last_own, get_of_key, by_side, own_parts}

-- the calls before one of them, and those behind it
split_at : (calls : List Call) (i : ℕ) (c : Call) → slice_get calls i ≡ Some c → (rest : List Call) × (calls ≡ take i calls ++ c ∷ rest) × (length (take i calls) ≡ i)
split_at [] i c is = cc
split_at (d ∷ calls) zero c is = let same : d ≡ c = cc in (calls, ap (λ e. e ∷ calls) same, refl)
split_at (d ∷ calls) (suc i) c is = let h = split_at calls i c is in (h.0, ap (λ xs. d ∷ xs) h.1, ap suc h.2)

-- a call is the one of its turn
own_turn : (calls : List Call) (i : ℕ) (c : Call) → slice_get calls i ≡ Some c → slice_get (of_key c.side c.key calls) (turn_of (take i calls) c) ≡ Some (i, c)
own_turn calls i c is =
    let h = split_at calls i c is in
    let before = take i calls in
    let there = get_of_key c.side c.key (before ++ c ∷ []) h.0 (turn_of before c) (length before, c) (last_own before c) in
    subst (λ xs. slice_get (of_key c.side c.key xs) (turn_of before c) ≡ Some (i, c)) (append_assoc before (c ∷ []) h.0 ∙ sym h.1)
    (there ∙ ap (λ n. Some (n, c)) h.2)

-- the slots of a side and a key ascend
ascend : (s : Side) (q : Key) (n : ℕ) (calls : List Call) (a b : ℕ) (e f : ℕ × Call) → a < b → slice_get (filter (λ e. is_of s q e.1) (enumerate_from n calls)) a ≡ Some e
    → slice_get (filter (λ e. is_of s q e.1) (enumerate_from n calls)) b ≡ Some f → e.0 < f.0
ascend s q n [] a b e f less is_e is_f = cc
ascend s q n (x ∷ xs) a b e f less is_e is_f =
    elim (cases_Bool (is_of s q x)) [
      | inr other ↦ ascend s q (n + 1) xs a b e f less (rw other at is_e) (rw other at is_f)
      | inl here ↦ first a b less (rw here at is_e) (rw here at is_f) (λ c d lt x y. ascend s q (n + 1) xs c d e f lt x y)
    ]
  where
    first : (a b : ℕ) → a < b → slice_get ((n, x) ∷ filter (λ e. is_of s q e.1) (enumerate_from (n + 1) xs)) a ≡ Some e
        → slice_get ((n, x) ∷ filter (λ e. is_of s q e.1) (enumerate_from (n + 1) xs)) b ≡ Some f
        → ((c d : ℕ) → c < d → slice_get (filter (λ e. is_of s q e.1) (enumerate_from (n + 1) xs)) c ≡ Some e → slice_get (filter (λ e. is_of s q e.1) (enumerate_from (n + 1) xs)) d ≡ Some f → e.0 < f.0)
        → e.0 < f.0
    first a zero lt is_e is_f rest = absurd (omega arith)
    first zero (suc b) lt is_e is_f rest =
        let low = (stands s q (n + 1) xs b f is_f).low in
        let same : (n, x) ≡ e = cc in
        let at : n ≡ e.0 = ap (λ (p : ℕ × Call). p.0) same in
        omega arith
    first (suc a) (suc b) lt is_e is_f rest = rest a b (omega arith) is_e is_f

-- so a call has one turn
one_turn : (s : Side) (q : Key) (calls : List Call) (a b : ℕ) (e : ℕ × Call) → slice_get (of_key s q calls) a ≡ Some e → slice_get (of_key s q calls) b ≡ Some e → a ≡ b
unfolding of_key
one_turn s q calls a b e is_a is_b =
    elim (cases_lt a b) [
      | inl less ↦ let h = ascend s q 0 calls a b e e less is_a is_b in absurd (omega arith)
      | inr more ↦ elim (cases_lt b a) [
        | inl less ↦ let h = ascend s q 0 calls b a e e less is_b is_a in absurd (omega arith)
        | inr other ↦ omega arith
      ]
    ]

-- an option that has a value after a function had one before
some_of : {A B : Type 0} (f : A → B) (o : Option A) (b : B) → option_map f o ≡ Some b → (a : A) × (o ≡ Some a) × (f a ≡ b)
some_of f None b is = cc
some_of f (Some a) b is = (a, refl, cc)

-- a call and its partner are the two of their pair, by the call's side
sides : (side : Side) (own other : ℕ × Call) (i j : ℕ) → own.0 ≡ i → other.0 ≡ j
    → (((pair_with side own other).send.0 ≡ i) × ((pair_with side own other).recv.0 ≡ j)) ⊎ (((pair_with side own other).recv.0 ≡ i) × ((pair_with side own other).send.0 ≡ j))
sides SendSide own other i j a b = inl (a, b)
sides RecvSide own other i j a b = inr (a, b)

-- the partner of a slot is the other slot of a pair
partners : (calls : List Call) (i j : ℕ) → partner_of calls i ≡ Some j → ArePartners calls i j
partners calls i j is = by_call (slice_get calls i) refl
  where
    by_call : (o : Option Call) → slice_get calls i ≡ o → ArePartners calls i j
    by_call None none = let e : ◌≡◌ {A = Option ℕ} None (Some j) = sym (partner_past calls i none) ∙ is in cc
    by_call (Some c) there =
        let found = some_of (λ (e : ℕ × Call). e.0) (slice_get (of_key (facing c.side) c.key calls) (turn_of (take i calls) c)) j
        (sym (slice_get-map (λ (e : ℕ × Call). e.0) (of_key (facing c.side) c.key calls) (turn_of (take i calls) c)) ∙ sym (partner_at calls i c there) ∙ is) in
        record {
          pair = pair_with c.side (i, c) found.0;
          paired = by_side c.side c.key calls (i, c) found.0 (turn_of (take i calls) c) (own_turn calls i c there) found.1;
          slots = sides c.side (i, c) found.0 i j refl found.2;
        }

-- where a call and another are of one turn, the other is its partner
turn_partner : (side : Side) (key : Key) (calls : List Call) (own other : ℕ × Call) (k : ℕ) → slice_get (of_key side key calls) k ≡ Some own → slice_get (of_key (facing side) key calls) k ≡ Some other
    → partner_of calls own.0 ≡ Some other.0
turn_partner side key calls own other k is_own is_other =
    let c = own.1 in
    let there = stands_at side key calls k own is_own in
    let parts = own_parts side key c there.1 in
    let here : slice_get (of_key side key calls) (turn_of (take own.0 calls) c) ≡ Some own =
    subst (λ s. slice_get (of_key s key calls) (turn_of (take own.0 calls) c) ≡ Some own) (sym parts.0)
    (subst (λ q. slice_get (of_key c.side q calls) (turn_of (take own.0 calls) c) ≡ Some own) (sym parts.1) (own_turn calls own.0 c there.0)) in
    let turn = one_turn side key calls (turn_of (take own.0 calls) c) k own here is_own in
    let found : slice_get (of_key (facing c.side) c.key calls) (turn_of (take own.0 calls) c) ≡ Some other =
    subst (λ s. slice_get (of_key (facing s) c.key calls) (turn_of (take own.0 calls) c) ≡ Some other) parts.0
    (subst (λ q. slice_get (of_key (facing side) q calls) (turn_of (take own.0 calls) c) ≡ Some other) parts.1 (ap (slice_get (of_key (facing side) key calls)) turn ∙ is_other)) in
    partner_at calls own.0 c there.0 ∙ slice_get-map (λ (e : ℕ × Call). e.0) (of_key (facing c.side) c.key calls) (turn_of (take own.0 calls) c) ∙ ap (option_map (λ (e : ℕ × Call). e.0)) found

-- and the other slot of a pair is the partner
partner_back : (calls : List Call) (i j : ℕ) → ArePartners calls i j → partner_of calls i ≡ Some j
partner_back calls i j h =
    let p = h.paired in
    elim h.slots [
      | inl s ↦ ap (partner_of calls) (sym s.0) ∙ turn_partner SendSide p.key calls h.pair.send h.pair.recv p.turn p.send p.recv ∙ ap Some s.1
      | inr s ↦ ap (partner_of calls) (sym s.0) ∙ turn_partner RecvSide p.key calls h.pair.recv h.pair.send p.turn p.recv p.send ∙ ap Some s.1
    ]

-- the partner of a slot is the other slot of the pair that it is in
pub the_partner : IsThePartner
the_partner calls slot other = (partners calls slot other, partner_back calls slot other)
