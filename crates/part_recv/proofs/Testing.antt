-- What a test of the receive end answers by the flags of the lanes: a search for the first lane with a flag finds none
-- only where none has it.
use Rattle.std.proofs.Common.{inl, inr, ◌≡◌, ℕ, zero, suc, ◌+◌, ◌<◌, Bool, true, false, cond, not, List, [], ◌∷◌, length, get_or, Option, Some, None, refl, sym, ap, ◌∙◌, arith, true≢false}
use Rattle.std.specs.List.{position, position_from}
use Rattle.std.specs.Prelude.{if◌then◌else◌}
use Rattle.std.specs.Option.{option_map_or}
use Rattle.std.proofs.lemmas.Bool.{cases_Bool}
use Rattle.std.proofs.lemmas.Iterator.Adapters.{position_from-zero}
use mathlib.Core.Option.{some, some-injective, some-ne-none}
use lib.ListN.{get_elem?}
use Rattle.part_geometry.specs.declared.answers.RecvTest.{RecvTest}
use Rattle.part_geometry.specs.declared.answers.RecvTest.TheVariants.{Idle, Untaken, Out, Done}
use Rattle.slot_rows.specs.declared.lane.Lane.{Lane}
use Rattle.part_recv.specs.Receiving.{End, is_active, test_answer}

-- the lane at a number, read with a default
pub lane_is : (ls : List Lane) (q : ℕ) (d : Lane) → q < length ls → get_elem? ls q ≡ some (get_or ls q d)
lane_is [] q d h = absurd (omega arith)
lane_is (l ∷ ls) zero d h = refl
lane_is (l ∷ ls) (suc q) d h = lane_is ls q d (omega arith)

not_false : (b : Bool) → not b ≡ false → b ≡ true
not_false true e = refl
not_false false e = absurd (true≢false e)

head_none : (p : Lane → Bool) (i : ℕ) (x : Lane) (xs : List Lane) → position_from p i (x ∷ xs) ≡ None → (p x ≡ false) × (position_from p (i + 1) xs ≡ None)
head_none p i x xs none =
    let at : Bool → Option ℕ = λ b. cond b (Some i) (position_from p (i + 1) xs) in
    elim (cases_Bool (p x)) [
      | inl here ↦ let bad : Some i ≡ None = sym (ap at here) ∙ none in absurd (cc)
      | inr not_here ↦ (not_here, sym (ap at not_here) ∙ none)
    ]

from_none : (p : Lane → Bool) (i : ℕ) (ls : List Lane) → position_from p i ls ≡ None → (q : ℕ) (l : Lane) → get_elem? ls q ≡ some l → p l ≡ false
from_none p i [] none q l e = absurd (some-ne-none l (sym e))
from_none p i (x ∷ xs) none zero l e = ap p (sym (some-injective x l e)) ∙ (head_none p i x xs none).0
from_none p i (x ∷ xs) none (suc q) l e = from_none p (i + 1) xs (head_none p i x xs none).1 q l e

-- where a search finds no lane, none passes its test
pub none_passes : (p : Lane → Bool) (ls : List Lane) → position p ls ≡ None → (q : ℕ) (l : Lane) → get_elem? ls q ≡ some l → p l ≡ false
none_passes p ls none q l e = from_none p 0 ls (sym (position_from-zero p ls) ∙ none) q l e

-- where it finds none that isn't taken, all are
pub all_taken : (ls : List Lane) → position (λ (l : Lane). not l.taken) ls ≡ None → (q : ℕ) (l : Lane) → get_elem? ls q ≡ some l → l.taken ≡ true
all_taken ls none q l e = not_false l.taken (none_passes (λ (z : Lane). not z.taken) ls none q l e)

abbrev answer_of : Bool → Option ℕ → Option ℕ → RecvTest
answer_of active untaken out = if not active then Idle else option_map_or Untaken untaken (option_map_or Out out Done)

module _ (s : End) (active : is_active s.view ≡ true) (taken : position (λ (l : Lane). not l.taken) s.lanes ≡ None) where
  -- where all are taken, the answer is the first that is out
  pub test_out : (q : ℕ) → position (λ (l : Lane). l.out) s.lanes ≡ Some q → test_answer s ≡ Out q
  test_out q out = λ i. answer_of (active i) (taken i) (out i)

  -- and where none is, that the round is done
  pub test_done : position (λ (l : Lane). l.out) s.lanes ≡ None → test_answer s ≡ Done
  test_done none = λ i. answer_of (active i) (taken i) (none i)
