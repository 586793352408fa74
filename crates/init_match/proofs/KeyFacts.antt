-- The map of keys and the lists behind it. The map says which list is that of a key; each key with a list has one of
-- its own, so a change of one list changes no other key.
use Rattle.std.proofs.Common.{◌≡◌, ◌≢◌, ℕ, ◌+◌, ◌==◌, Bool, true, false, cond, ◌&&◌, Some, None, Option, Ok, Err, Result, [], ◌∷◌, ◌++◌, length, get_or, set, length-append, refl, ap, sym, ◌∙◌, arith, inl, inr}
use Rattle.std.specs.Result.{OnOk, OnErr}
use Rattle.std.specs.Ordering.{nat_cmp, ordering_then, is_eq}
use Rattle.std.specs.Cmp.{unsigned_ties}
use Rattle.std.specs.declared.cmp.Ordering.{Ordering}
use Rattle.std.specs.declared.cmp.Ordering.TheVariants.{Less, Equal, Greater}
use Rattle.std.proofs.lemmas.Bool.{cases_Bool, eqb-true, eq-eqb, and_parts, and_from, false≢true, cond-true, cond-false}
use Rattle.std.proofs.Math.Seq.{get_or-append_seam}
use Rattle.std.proofs.lemmas.List.{get_or_append_left, length-set, get_or-set_same, get_or-set_other}
use Rattle.part_geometry.specs.declared.answers.Side.{Side}
use Rattle.part_geometry.specs.declared.answers.Side.TheVariants.{SendSide, RecvSide}
use Rattle.init_match.specs.declared.keys.Key.{Key}
use Rattle.init_match.specs.declared.keys.KeyLists.{KeyLists}
use Rattle.init_match.specs.Calls.{same_key, same_side}
use Rattle.init_match.specs.Slots.{Slots, no_slots, side_slots, with_slot, appended}
use Rattle.init_match.specs.KeyLists.{key_cmp, place_of, slots_at, lists_of, IsKeyLists, SameLists}

-- one order and then another tie exactly where both do
then_ties : (a b : Ordering) → is_eq (ordering_then a b) ≡ (is_eq a && is_eq b)
then_ties Less b = refl
then_ties Equal b = refl
then_ties Greater b = refl

-- numbers tie in their order exactly where they are equal
nat_ties : (x y : ℕ) → is_eq (nat_cmp x y) ≡ (x == y)
nat_ties x y = sym (unsigned_ties x y)

-- keys tie in their order exactly where they have the same four numbers
pub key_ties : (a b : Key) → is_eq (key_cmp a b) ≡ same_key a b
key_ties a b =
    then_ties (nat_cmp a.comm b.comm) _
    ∙ ap (λ t. is_eq (nat_cmp a.comm b.comm) && t) (then_ties (nat_cmp a.from b.from) _ ∙ ap (λ t. is_eq (nat_cmp a.from b.from) && t) (then_ties (nat_cmp a.to b.to) _))
    ∙ rw (nat_ties a.comm b.comm, nat_ties a.from b.from, nat_ties a.to b.to, nat_ties a.tag b.tag) refl

-- keys with the same four numbers are equal
pub key-same : (a b : Key) → same_key a b ≡ true → a ≡ b
key-same a b same =
    let p = and_parts (a.comm == b.comm) ((a.from == b.from) && ((a.to == b.to) && (a.tag == b.tag))) same in
    let q = and_parts (a.from == b.from) ((a.to == b.to) && (a.tag == b.tag)) p.1 in
    let r = and_parts (a.to == b.to) (a.tag == b.tag) q.1 in
    by_parts (eqb-true _ _ p.0) (eqb-true _ _ q.0) (eqb-true _ _ r.0) (eqb-true _ _ r.1)
  where
    by_parts : a.comm ≡ b.comm → a.from ≡ b.from → a.to ≡ b.to → a.tag ≡ b.tag → record { comm = a.comm; from = a.from; to = a.to; tag = a.tag } ≡ b
    by_parts p q r s = rw (p, q, r, s) refl

-- a key has the same numbers as itself
pub same-key : (a : Key) → same_key a a ≡ true
same-key a =
    and_from (a.comm == a.comm) _ (eq-eqb a.comm a.comm refl)
    (and_from (a.from == a.from) _ (eq-eqb a.from a.from refl) (and_from (a.to == a.to) (a.tag == a.tag) (eq-eqb a.to a.to refl) (eq-eqb a.tag a.tag refl)))

-- which of two keys comes first makes no difference to that
pub same_key-sym : (a b : Key) → same_key a b ≡ same_key b a
same_key-sym a b =
    elim (cases_Bool (same_key a b)) [
      | inl yes' ↦ yes' ∙ sym (ap (λ c. same_key c a) (sym (key-same a b yes')) ∙ same-key a)
      | inr no' ↦ elim (cases_Bool (same_key b a)) [
        | inr no'' ↦ no' ∙ sym no''
        | inl yes'' ↦ absurd (false≢true (sym no' ∙ ap (λ c. same_key c b) (sym (key-same b a yes'')) ∙ same-key b))
      ]
    ]

-- a key that has no list has no slots
pub lists_none : (m : KeyLists) (s : Side) (q : Key) → place_of m q ≡ None → lists_of m s q ≡ []
unfolding lists_of
lists_none m s q none = rw none refl

-- a key that has a list has that list's slots
pub lists_some : (m : KeyLists) (s : Side) (q : Key) (i : ℕ) → place_of m q ≡ Some i → lists_of m s q ≡ slots_at s m.lists.items i
unfolding lists_of
lists_some m s q i some = rw some refl

-- where places and lists are the same, so are the slots of each key
pub same_lists : (m n : KeyLists) → ((q : Key) → place_of n q ≡ place_of m q) → n.lists.items ≡ m.lists.items → SameLists m n
unfolding lists_of
same_lists m n places items s q = rw (places q, items) refl

-- a list more, for a key that had none
pub record IsPlaced (m n : KeyLists) (key : Key) : Type 0 where
  pub none : place_of m key ≡ None
  pub places : (q : Key) → place_of n q ≡ cond (is_eq (key_cmp key q)) (Some (length m.lists.items)) (place_of m q)
  pub items : n.lists.items ≡ m.lists.items ++ no_slots ∷ []

-- another key is where it was
place_before : (m n : KeyLists) (key q : Key) → IsPlaced m n key → same_key key q ≡ false → place_of n q ≡ place_of m q
place_before m n key q p other = p.places q ∙ cond-false _ _ _ (key_ties key q ∙ other)

-- a key with the same numbers is at the new list
place_new : (m n : KeyLists) (key q : Key) → IsPlaced m n key → same_key key q ≡ true → place_of n q ≡ Some (length m.lists.items)
place_new m n key q p same = p.places q ∙ cond-true _ _ _ (key_ties key q ∙ same)

-- the key is at the new list
pub place_here : (m n : KeyLists) (key : Key) → IsPlaced m n key → place_of n key ≡ Some (length m.lists.items)
place_here m n key p = place_new m n key key p (same-key key)

-- then each key with a list still has one of its own
pub valid_placed : (m n : KeyLists) (key : Key) → IsKeyLists m → IsPlaced m n key → IsKeyLists n
valid_placed m n key v p =
    let size : length n.lists.items ≡ length m.lists.items + 1 = ap length p.items ∙ length-append m.lists.items (no_slots ∷ []) in
    record {
      inside = λ q i is.
          elim (cases_Bool (same_key key q)) [
            | inl same ↦ let e : Some i ≡ Some (length m.lists.items) = sym is ∙ place_new m n key q p same in let f : i ≡ length m.lists.items = cc in omega arith
            | inr other ↦ let h = v.inside q i (sym (place_before m n key q p other) ∙ is) in omega arith
          ];
      apart = λ a b i is_a is_b.
          elim (cases_Bool (same_key key a)) [
            | inl same_a ↦ elim (cases_Bool (same_key key b)) [
              | inl same_b ↦ ap (λ c. same_key c b) (sym (key-same key a same_a)) ∙ same_b
              | inr other_b ↦
                  let h = v.inside b i (sym (place_before m n key b p other_b) ∙ is_b) in
                  let e : Some i ≡ Some (length m.lists.items) = sym is_a ∙ place_new m n key a p same_a in
                  let f : i ≡ length m.lists.items = cc in absurd (omega arith)
            ]
            | inr other_a ↦ elim (cases_Bool (same_key key b)) [
              | inr other_b ↦ v.apart a b i (sym (place_before m n key a p other_a) ∙ is_a) (sym (place_before m n key b p other_b) ∙ is_b)
              | inl same_b ↦
                  let h = v.inside a i (sym (place_before m n key a p other_a) ∙ is_a) in
                  let e : Some i ≡ Some (length m.lists.items) = sym is_b ∙ place_new m n key b p same_b in
                  let f : i ≡ length m.lists.items = cc in absurd (omega arith)
            ]
          ];
    }

none_slots : (s : Side) → side_slots s no_slots ≡ []
none_slots SendSide = refl
none_slots RecvSide = refl

-- and each key has the slots that it had, as the new list is empty
pub same_placed : (m n : KeyLists) (key : Key) → IsKeyLists m → IsPlaced m n key → SameLists m n
same_placed m n key v p s q =
    elim (cases_Bool (same_key key q)) [
      | inl same ↦
          let before : place_of m q ≡ None = ap (place_of m) (sym (key-same key q same)) ∙ p.none in
          lists_some n s q _ (place_new m n key q p same) ∙ ap (λ xs. slots_at s xs (length m.lists.items)) p.items
          ∙ ap (side_slots s) (get_or-append_seam m.lists.items no_slots [] no_slots) ∙ none_slots s ∙ sym (lists_none m s q before)
      | inr other ↦ by_place (place_of m q) refl (place_before m n key q p other)
    ]
  where
    by_place : (o : Option ℕ) → place_of m q ≡ o → place_of n q ≡ place_of m q → lists_of n s q ≡ lists_of m s q
    by_place None was now = lists_none n s q (now ∙ was) ∙ sym (lists_none m s q was)
    by_place (Some i) was now =
        let h = v.inside q i was in
        lists_some n s q i (now ∙ was) ∙ ap (λ xs. slots_at s xs i) p.items
        ∙ ap (side_slots s) (get_or_append_left m.lists.items (no_slots ∷ []) no_slots i h) ∙ sym (lists_some m s q i was)

-- a slot more in the list of a key
pub record IsPushed (m n : KeyLists) (side : Side) (key : Key) (slot i : ℕ) : Type 0 where
  pub place : place_of m key ≡ Some i
  pub places : (q : Key) → place_of n q ≡ place_of m q
  pub items : n.lists.items ≡ set m.lists.items i (with_slot side slot (get_or m.lists.items i no_slots))

-- a slot more on one side of a key's slots is one more there, and none on the other side
slots_more : (s side : Side) (slot : ℕ) (k : Slots) → side_slots s (with_slot side slot k) ≡ appended (same_side s side) slot (side_slots s k)
slots_more SendSide SendSide slot k = refl
slots_more SendSide RecvSide slot k = refl
slots_more RecvSide SendSide slot k = refl
slots_more RecvSide RecvSide slot k = refl

-- a slot more in a list leaves each key with a list of its own
pub valid_pushed : (m n : KeyLists) (side : Side) (key : Key) (slot i : ℕ) → IsKeyLists m → IsPushed m n side key slot i → IsKeyLists n
valid_pushed m n side key slot i v p =
    let size : length n.lists.items ≡ length m.lists.items = ap length p.items ∙ length-set m.lists.items i _ in
    record {
      inside = λ q j is. let h = v.inside q j (sym (p.places q) ∙ is) in omega arith;
      apart = λ a b j is_a is_b. v.apart a b j (sym (p.places a) ∙ is_a) (sym (p.places b) ∙ is_b);
    }

and_no : (b : Bool) → (b && false) ≡ false
and_no true = refl
and_no false = refl

and_yes : (b : Bool) → (b && true) ≡ b
and_yes true = refl
and_yes false = refl

-- the side and key of the slot have it behind those that they had, and all others have what they had
pub lists_pushed : (m n : KeyLists) (side : Side) (key : Key) (slot i : ℕ) → IsKeyLists m → IsPushed m n side key slot i
    → (s : Side) (q : Key) → lists_of n s q ≡ appended (same_side s side && same_key q key) slot (lists_of m s q)
lists_pushed m n side key slot i v p s q =
    elim (cases_Bool (same_key q key)) [
      | inl same ↦
          let here : place_of m q ≡ Some i = ap (place_of m) (key-same q key same) ∙ p.place in
          let h = v.inside key i p.place in
          lists_some n s q i (p.places q ∙ here) ∙ ap (λ xs. slots_at s xs i) p.items ∙ ap (side_slots s) (get_or-set_same m.lists.items i _ no_slots h)
          ∙ slots_more s side slot (get_or m.lists.items i no_slots)
          ∙ sym (ap (λ b. appended b slot (lists_of m s q)) (ap (λ b. same_side s side && b) same ∙ and_yes (same_side s side)) ∙ ap (appended (same_side s side) slot) (lists_some m s q i here))
      | inr other ↦
          by_place (place_of m q) refl other
          ∙ sym (ap (λ b. appended b slot (lists_of m s q)) (ap (λ b. same_side s side && b) other ∙ and_no (same_side s side)))
    ]
  where
    by_place : (o : Option ℕ) → place_of m q ≡ o → same_key q key ≡ false → lists_of n s q ≡ lists_of m s q
    by_place None was other = lists_none n s q (p.places q ∙ was) ∙ sym (lists_none m s q was)
    by_place (Some j) was other =
        let apart : j ≢ i = λ e. false≢true (sym other ∙ v.apart q key i (was ∙ ap Some e) p.place) in
        lists_some n s q j (p.places q ∙ was) ∙ ap (λ xs. slots_at s xs j) p.items ∙ ap (side_slots s) (get_or-set_other m.lists.items i j _ no_slots apart)
        ∙ sym (lists_some m s q j was)

-- a fact for an accepted outcome, by another
pub on_ok_by : {T E P Q : Type 0} (r : Result T E) → (P → Q) → OnOk r P → OnOk r Q
on_ok_by (Ok x) f p = f p
on_ok_by (Err e) f p = p

-- a fact for a refused outcome, by another
pub on_err_by : {T E P Q : Type 0} (r : Result T E) → (P → Q) → OnErr r P → OnErr r Q
on_err_by (Ok x) f p = p
on_err_by (Err e) f p = f p
