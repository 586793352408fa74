-- The slots of names, as requests are added and matched: the slot of a name is the first place that has it, so a
-- request that is added behind, or a pair that is written into one, moves no other.
use Rattle.std.proofs.Common.{◌≡◌, ℕ, zero, suc, ◌+◌, Bool, true, false, cond, if◌then◌else◌, bytes_eq, List, [], ◌∷◌, ◌++◌, length, set, Option, Some, None, refl, sym, ap, ◌∙◌, arith, tests, inl, inr}
use Rattle.std.specs.List.{position_from}
use Rattle.std.specs.Prelude.{slice_get}
use Rattle.std.proofs.lemmas.Bool.{cases_Bool}
use Rattle.std.proofs.lemmas.Slice.Eq.{bytes_eq-Decides}
use Rattle.script_run.specs.Run.{in_pair, with_pair, matched_at}
use Rattle.script_run.specs.State.{Known, slot_of}

-- one request more, whose name is q or not
push_none : (p : Known → Bool) (n : ℕ) (rs : List Known) (r : Known) → position_from p n rs ≡ None → position_from p n (rs ++ r ∷ []) ≡ cond (p r) (Some (n + length rs)) None
push_none p n [] r none = ends (p r)
  where
    ends : (b : Bool) → cond b (Some n) None ≡ cond b (Some (n + length {A = Known} [])) None
    ends b = let e : n + length {A = Known} [] ≡ n = omega arith in rw e refl
push_none p n (x ∷ rs) r none =
    elim (p x) as (λ v. cond v (Some n) (position_from p (n + 1) rs) ≡ None → cond v (Some n) (position_from p (n + 1) (rs ++ r ∷ [])) ≡ cond (p r) (Some (n + length (x ∷ rs))) None) [
      | true ↦ λ e. absurd (cc)
      | false ↦ λ e. let s : n + 1 + length rs ≡ n + length (x ∷ rs) = omega arith in rw (← s) (push_none p (n + 1) rs r e)
    ] none

push_some : (p : Known → Bool) (n s : ℕ) (rs : List Known) (r : Known) → position_from p n rs ≡ Some s → position_from p n (rs ++ r ∷ []) ≡ Some s
push_some p n s [] r is = absurd (cc)
push_some p n s (x ∷ rs) r is =
    elim (p x) as (λ v. cond v (Some n) (position_from p (n + 1) rs) ≡ Some s → cond v (Some n) (position_from p (n + 1) (rs ++ r ∷ [])) ≡ Some s) [
      | true ↦ λ e. e
      | false ↦ λ e. push_some p (n + 1) s rs r e
    ] is

same_name : (a b : List ℕ) → bytes_eq a b ≡ true → a ≡ b
same_name a b same = grind (arith, tests, bytes_eq-Decides a b)

-- the slot of a name is that of the new request, where it has this name
pub slot_of-push : (rs : List Known) (r : Known) (q : List ℕ) → slot_of rs r.name ≡ None
    → slot_of (rs ++ r ∷ []) q ≡ (if bytes_eq r.name q then Some (length rs) else slot_of rs q)
slot_of-push rs r q free =
    elim (cases_Bool (bytes_eq r.name q)) [
      | inl same ↦
          let here : slot_of rs q ≡ None = rw (← same_name r.name q same) free in
          let at = push_none (λ k. bytes_eq k.name q) 0 rs r here in
          let e : 0 + length rs ≡ length rs = omega arith in
          at ∙ rw (same, e) refl
      | inr other ↦ rw other (beside (slot_of rs q) refl other)
    ]
  where
    beside : (o : Option ℕ) → slot_of rs q ≡ o → bytes_eq r.name q ≡ false → slot_of (rs ++ r ∷ []) q ≡ slot_of rs q
    beside None is other = push_none (λ k. bytes_eq k.name q) 0 rs r is ∙ rw (other, is) refl
    beside (Some s) is other = push_some (λ k. bytes_eq k.name q) 0 s rs r is ∙ sym is

-- a request that is matched keeps its name
set_same : (q : List ℕ) (n k : ℕ) (rs : List Known) (i : ℕ) (r : Known) → slice_get rs i ≡ Some r
    → position_from (λ x. bytes_eq x.name q) k (set rs i (in_pair n r)) ≡ position_from (λ x. bytes_eq x.name q) k rs
set_same q n k [] i r is = absurd (cc)
set_same q n k (x ∷ rs) zero r is = let e : x ≡ r = cc in rw e refl
set_same q n k (x ∷ rs) (suc i) r is = ap (λ o. cond (bytes_eq x.name q) (Some k) o) (set_same q n (k + 1) rs i r is)

-- matching a request changes the slot of no name
pub slot_of-matched_at : (n slot : ℕ) (rs : List Known) (q : List ℕ) → slot_of (matched_at n slot rs) q ≡ slot_of rs q
slot_of-matched_at n slot rs q =
    elim (slice_get rs slot) as (λ o. slice_get rs slot ≡ o → slot_of (with_pair n slot rs o) q ≡ slot_of rs q) [
      | None ↦ λ is. refl
      | Some r ↦ λ is. set_same q n 0 rs slot r is
    ] refl

set_long : (rs : List Known) (i : ℕ) (r : Known) → length (set rs i r) ≡ length rs
set_long [] i r = refl
set_long (x ∷ rs) zero r = refl
set_long (x ∷ rs) (suc i) r = ap suc (set_long rs i r)

-- matching a request leaves as many requests
pub length-matched_at : (n slot : ℕ) (rs : List Known) → length (matched_at n slot rs) ≡ length rs
length-matched_at n slot rs =
    elim (slice_get rs slot) as (λ o. length (with_pair n slot rs o) ≡ length rs) [
      | None ↦ refl
      | Some r ↦ set_long rs slot (in_pair n r)
    ]
